-- A list with a part of it written anew: its length, a longer part, and one element more. Assumes nothing.
use Prim.Native.Nat.{ℕ, ◌+◌, ◌-◌, ◌≤◌, ◌<◌}
use mathlib.Core.Path.{◌≡◌, sym, ◌∙◌, ap, ap₂}
use mathlib.Core.List.{List, [], ◌∷◌, ◌++◌, append_assoc}
use native.Mathlib.Nat.{add-zero}
use native.Mathlib.Numerals.{add-one}
use native.Mathlib.Decide.{dec_lt}
use native.Mathlib.Omega.{arith}
use lib.ListN.{length, get_or, take, drop, set, length-append, length-drop, take-append-drop, get_or-append}
use lib.Seq.{length-take-le, take_at, drop_at, drop-drop, set_split, get_or-take, get_or-drop, get_or-append-add}
use Rattle.lists.specs.Test.{AtMost}
use Rattle.pages.specs.Reading.{overlay}

pub overlay_none : (at : ℕ) (old : List ℕ) → overlay at [] old ≡ old
unfolding overlay
overlay_none at old = ap (λ (k : ℕ). take at old ++ drop k old) (add-zero at) ∙ take-append-drop at old

module _ (at : ℕ) (new old : List ℕ) (h : at + length new ≤ length old) where
  head_size : length (take at old ++ new) ≡ at + length new
  head_size = omega (arith, length-append (take at old) new, length-take-le at old (omega arith))

  pub overlay-length : length (overlay at new old) ≡ length old
  unfolding overlay
  overlay-length = omega (arith, length-append (take at old) (new ++ drop (at + length new) old), length-append new (drop (at + length new) old), length-take-le at old (omega arith), length-drop (at + length new) old)

  as_head : overlay at new old ≡ (take at old ++ new) ++ drop (at + length new) old
  unfolding overlay
  as_head = sym (append_assoc (take at old) new (drop (at + length new) old))

  pub overlay-take : take (at + length new) (overlay at new old) ≡ take at old ++ new
  overlay-take = ap (take (at + length new)) as_head ∙ take_at (take at old ++ new) (drop (at + length new) old) (at + length new) head_size

  pub overlay-drop : drop (at + length new) (overlay at new old) ≡ drop (at + length new) old
  overlay-drop = ap (drop (at + length new)) as_head ∙ drop_at (take at old ++ new) (drop (at + length new) old) (at + length new) head_size

  -- a longer part
  pub overlay_more : (more : List ℕ) → overlay at (new ++ more) old ≡ overlay (at + length new) more (overlay at new old)
  unfolding overlay
  overlay_more more =
      let k = at + length new in
      let size : at + length (new ++ more) ≡ k + length more = omega (arith, length-append new more) in
      ap (λ (j : ℕ). take at old ++ ((new ++ more) ++ drop j old)) size
      ∙ ap (λ (l : List ℕ). take at old ++ l) (append_assoc new more (drop (k + length more) old))
      ∙ sym (append_assoc (take at old) new (more ++ drop (k + length more) old))
      ∙ ap₂ (λ (x y : List ℕ). x ++ (more ++ y)) (sym overlay-take) (sym (drop-drop (length more) k old) ∙ ap (drop (length more)) (sym overlay-drop) ∙ drop-drop (length more) k (overlay at new old))

-- one element more
pub overlay_one : (at : ℕ) (old : List ℕ) (x : ℕ) → at < length old → overlay at (x ∷ []) old ≡ set old at x
unfolding overlay
overlay_one at old x h = ap (λ (k : ℕ). take at old ++ (x ∷ drop k old)) (add-one at) ∙ sym (set_split old at x h)

-- what stands where
module _ (at : ℕ) (new old : List ℕ) (h : at + length new ≤ length old) where
  pub overlay_before : (i : ℕ) → i < at → get_or (overlay at new old) i 0 ≡ get_or old i 0
  unfolding overlay
  overlay_before i l = get_or-append (take at old) (new ++ drop (at + length new) old) 0 i (omega (arith, length-take-le at old (omega arith))) ∙ get_or-take at old i 0 l

  pub overlay_inside : (i : ℕ) → i < length new → get_or (overlay at new old) (at + i) 0 ≡ get_or new i 0
  unfolding overlay
  overlay_inside i l =
      ap (λ (k : ℕ). get_or (overlay at new old) (k + i) 0) (sym (length-take-le at old (omega arith)))
      ∙ get_or-append-add (take at old) (new ++ drop (at + length new) old) i 0
      ∙ get_or-append new (drop (at + length new) old) 0 i l

  pub overlay_past : (i : ℕ) → at + length new ≤ i → get_or (overlay at new old) i 0 ≡ get_or old i 0
  overlay_past i l =
      let k = at + length new in
      let e : i ≡ k + (i - k) = omega arith in
      ap (λ (j : ℕ). get_or (overlay at new old) j 0) e
      ∙ sym (get_or-drop k (overlay at new old) (i - k) 0)
      ∙ ap (λ (x : List ℕ). get_or x (i - k) 0) (overlay-drop at new old h)
      ∙ get_or-drop k old (i - k) 0
      ∙ ap (λ (j : ℕ). get_or old j 0) (sym e)

  -- a limit that both keep
  pub overlay_most : (most : ℕ) → AtMost most new → AtMost most old → AtMost most (overlay at new old)
  overlay_most most a b i = elim (dec_lt i at) [
    | yes l ↦ omega (arith, overlay_before i l, b i)
    | no l ↦ elim (dec_lt i (at + length new)) [
      | yes g ↦
          let e : i ≡ at + (i - at) = omega arith in
          omega (arith, ap (λ (k : ℕ). get_or (overlay at new old) k 0) e, overlay_inside (i - at) (omega arith), a (i - at))
      | no g ↦ omega (arith, overlay_past i (omega arith), b i)
    ]
  ]
