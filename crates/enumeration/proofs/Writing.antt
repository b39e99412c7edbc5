-- A pair is written behind the pairs that stand, and counted if it stands itself: the numbers at the front are then
-- those of the pairs that stand, with this one or without it. Assumes nothing.
use Prim.Native.Nat.{ℕ, suc, ◌+◌, ◌*◌, ◌≤◌, ◌<◌}
use mathlib.Core.Path.{◌≡◌, refl, sym, ◌∙◌, ap, ap₂}
use mathlib.Core.Bool.{Bool, true, false}
use mathlib.Core.List.{List, [], ◌∷◌, ◌++◌, append_assoc}
use native.Mathlib.Numerals.{add-one}
use native.Mathlib.Omega.{arith}
use mir.Val.{bool_byte}
use lib.ListN.{length, take, set, length-set}
use lib.Seq.{take-suc-set, take-set-le}
use Rattle.lengths.specs.Edge.{Edge, edge}
use Rattle.rules.specs.Pairs.{keep}
use Rattle.rules.proofs.PairLists.{keep_yes, keep_no}
use Rattle.enumeration.specs.Find.{numbers_of}
use Rattle.enumeration.specs.asks.Find.{ones}

-- lists of pairs

pub keep_fewer : (t : ℕ → ℕ → Bool) (es : List Edge) → length (keep t es) ≤ length es
unfolding keep
keep_fewer t [] = omega arith
keep_fewer t (edge a b ∷ es) = go (t a b) refl (keep_fewer t es)
  where
    go : (s : Bool) → t a b ≡ s → length (keep t es) ≤ length es → length (keep t (edge a b ∷ es)) ≤ suc (length es)
    go true e h = rw (keep_yes t a b es e) (omega arith)
    go false e h = rw (keep_no t a b es e) (omega arith)

pub numbers_of-append : (es fs : List Edge) → numbers_of (es ++ fs) ≡ numbers_of es ++ numbers_of fs
unfolding numbers_of
numbers_of-append [] fs = refl
numbers_of-append (edge x y ∷ es) fs = ap (λ (ns : List ℕ). x ∷ y ∷ ns) (numbers_of-append es fs)

-- a pair that is written and counted if it stands

-- two numbers more at the front
two_more : (xs : List ℕ) (at a b : ℕ) → suc at < length xs → take (suc (suc at)) (set (set xs at a) (suc at) b) ≡ take at xs ++ (a ∷ b ∷ [])
two_more xs at a b h =
    take-suc-set (set xs at a) (suc at) b (omega (arith, length-set xs at a))
    ∙ ap (λ (ys : List ℕ). ys ++ (b ∷ [])) (take-suc-set xs at a (omega arith))
    ∙ append_assoc (take at xs) (a ∷ []) (b ∷ [])

pub byte_ones : (t : Bool) → bool_byte t ≡ ones t
unfolding ones
byte_ones true = refl
byte_ones false = refl

pub ones_small : (t : Bool) → ones t ≤ 1
unfolding ones
ones_small true = omega arith
ones_small false = omega arith

module _ (t : ℕ → ℕ → Bool) (es : List Edge) (x z count : ℕ) where
  pub count_pair : (s : Bool) → t x z ≡ s → count + ones s + length (keep t es) ≡ count + length (keep t (edge x z ∷ es))
  unfolding ones
  count_pair true e = omega (arith, ap length (keep_yes t x z es e))
  count_pair false e = omega (arith, ap length (keep_no t x z es e))

  pub write_pair : (found : List ℕ) → 2 * count + 1 < length found → (s : Bool) → t x z ≡ s
      → take (2 * (count + ones s)) (set (set found (2 * count) x) (2 * count + 1) z) ++ numbers_of (keep t es) ≡ take (2 * count) found ++ numbers_of (keep t (edge x z ∷ es))
  unfolding numbers_of ones
  write_pair found h true e =
      let two : 2 * (count + 1) ≡ suc (suc (2 * count)) = omega arith in
      ap₂ (λ (i j : ℕ). take i (set (set found (2 * count) x) j z) ++ numbers_of (keep t es)) two (add-one (2 * count))
      ∙ ap (λ (ys : List ℕ). ys ++ numbers_of (keep t es)) (two_more found (2 * count) x z (omega arith))
      ∙ append_assoc (take (2 * count) found) (x ∷ z ∷ []) (numbers_of (keep t es))
      ∙ ap (λ (fs : List Edge). take (2 * count) found ++ numbers_of fs) (sym (keep_yes t x z es e))
  write_pair found h false e =
      let same : 2 * (count + 0) ≡ 2 * count = omega arith in
      ap (λ (i : ℕ). take i (set (set found (2 * count) x) (2 * count + 1) z) ++ numbers_of (keep t es)) same
      ∙ ap (λ (ys : List ℕ). ys ++ numbers_of (keep t es))
      (take-set-le (2 * count) (set found (2 * count) x) (2 * count + 1) z (omega arith) ∙ take-set-le (2 * count) found (2 * count) x (omega arith))
      ∙ ap (λ (fs : List Edge). take (2 * count) found ++ numbers_of fs) (sym (keep_no t x z es e))
