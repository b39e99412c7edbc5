-- The lines of a text, one after the other. Assumes nothing.
use Prim.Native.Nat.{ℕ, ◌+◌}
use mathlib.Core.Path.{◌≡◌, refl, ◌∙◌, ap, ap₂}
use mathlib.Core.Bool.{Bool, true, false}
use mathlib.Core.List.{List, [], ◌∷◌, ◌++◌, map}
use native.Mathlib.Numerals.{add-one}
use lib.Dec.{eqb}
use lib.ListN.{take, drop}
use lib.Seq.{split_at}
use Rattle.tsplib_lines.specs.Words.{newline, free}
use Rattle.tsplib_lines.specs.TextLine.{line_of}
use Rattle.tsplib_lines.proofs.SoleWords.{FoundAt}
use Rattle.tsplib.specs.Judging.{with_byte, whole_lines, unfinished, lines_of}

pub false_true : {A : Type 0} → false ≡ true → A
false_true e = cc

-- a newline stands in the text
if_free : (x : Bool) {f : Bool} → f ≡ false → (elim x [ true ↦ false | false ↦ f ]) ≡ false
if_free true e = refl
if_free false e = e

not_free : (l t : List ℕ) → free newline (l ++ newline ∷ t) ≡ false
unfolding free
not_free [] t = refl
not_free (b ∷ l) t = if_free (eqb b newline) (not_free l t)

whole_next : (l t : List ℕ) → free newline l ≡ true → whole_lines (l ++ newline ∷ t) ≡ l ∷ whole_lines t
unfolding free whole_lines
whole_next [] t h = refl
whole_next (b ∷ l) t h = go (eqb b newline) h (whole_next l t)
  where
    go : (x : Bool) → (elim x [ true ↦ false | false ↦ free newline l ]) ≡ true → (free newline l ≡ true → whole_lines (l ++ newline ∷ t) ≡ l ∷ whole_lines t)
        → ◌≡◌ {A = List (List ℕ)} (elim x [ true ↦ [] ∷ whole_lines (l ++ newline ∷ t) | false ↦ with_byte b (whole_lines (l ++ newline ∷ t)) ]) ((b ∷ l) ∷ whole_lines t)
    go true h f = false_true h
    go false h f = ap (with_byte b) (f h)

pub lines_next : (l t : List ℕ) → free newline l ≡ true → lines_of (l ++ newline ∷ t) ≡ line_of l ∷ lines_of t
unfolding lines_of
lines_next l t h = ap (map line_of) (whole_next l t h)

pub whole_none : (t : List ℕ) → free newline t ≡ true → whole_lines t ≡ []
unfolding free whole_lines
whole_none [] h = refl
whole_none (b ∷ t) h = go (eqb b newline) h (whole_none t)
  where
    go : (x : Bool) → (elim x [ true ↦ false | false ↦ free newline t ]) ≡ true → (free newline t ≡ true → whole_lines t ≡ [])
        → ◌≡◌ {A = List (List ℕ)} (elim x [ true ↦ [] ∷ whole_lines t | false ↦ with_byte b (whole_lines t) ]) []
    go true h f = false_true h
    go false h f = ap (with_byte b) (f h)

pub lines_none : (t : List ℕ) → free newline t ≡ true → lines_of t ≡ []
unfolding lines_of
lines_none t h = ap (map line_of) (whole_none t h)

pub rest_next : (l t : List ℕ) → unfinished (l ++ newline ∷ t) ≡ unfinished t
unfolding unfinished free
rest_next [] t = refl
rest_next (b ∷ l) t = rw (unfinished, not_free (b ∷ l) t) (rest_next l t)

pub rest_none : (t : List ℕ) → free newline t ≡ true → unfinished t ≡ t
unfolding unfinished
rest_none [] h = refl
rest_none (b ∷ t) h = rw (unfinished, h)

-- a line that ends in a newline, and what stands behind it
pub next_line : (text : List ℕ) {r : ℕ} → FoundAt newline text r → text ≡ take r text ++ newline ∷ drop (r + 1) text
next_line text {r} f = split_at text r 0 f.inside ∙ ap₂ (λ (x : ℕ) (y : List ℕ). take r text ++ x ∷ y) f.is (rw add-one)
