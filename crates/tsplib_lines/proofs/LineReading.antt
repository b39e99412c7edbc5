-- The computed line at each way out of the code that reads one. Assumes nothing.
use Prim.Native.Nat.{ℕ, suc, ◌+◌, ◌-◌, ◌≤◌, ◌<◌}
use mathlib.Core.Path.{◌≡◌, refl, sym, ◌∙◌, ap}
use mathlib.Core.Bool.{Bool, true, false}
use mathlib.Core.List.{List, [], ◌∷◌, ◌++◌}
use Rattle.std.specs.Prelude.{Option, Some, None, unwrap_or, position, ◌==◌}
use native.Mathlib.Numerals.{add-one}
use native.Mathlib.Omega.{arith}
use lib.Dec.{eqb}
use lib.ListN.{length, get_or, take, drop, length-drop, drop_of_length-le}
use lib.Seq.{take_all, split_at, drop-cons}
use denote.Ref.{Bor}
use borrow.Author.Tests.{ne_eqb}
use Rattle.tsplib_lines.specs.Words.{colon, free, is_sole}
use Rattle.tsplib_lines.proofs.SoleWords.{free_all, found_at}
use Rattle.tsplib_lines.specs.Numbers.{numbers_in, counted, counted_all, no_tally, total_of, tallied_of}
use Rattle.tsplib_lines.specs.TextLine.{TextLine, node-section, weight-section, eof-line, other-line, Parts, whole, parts, with_byte, at_colon, when, dimension_of, numbers_or, parts_line, valued_as, keyword_of, section_of, line_of, told_of, told_numbers, named}
use Rattle.tsplib_lines.specs.declared.numbers.Tally.{Tally}
use Rattle.tsplib_lines.specs.declared.text_line.Keyword.{Keyword}
use Rattle.tsplib_lines.specs.declared.text_line.TalliedLine as code
use Rattle.tsplib_lines.specs.declared.text_line.TalliedLine.TheVariants as told

-- tallies
pub counted-all : (t : Tally) (xs : List ℕ) → (counted_all t xs).count ≡ t.count + length xs
unfolding counted_all
counted-all t [] = omega arith
counted-all t (x ∷ xs) = counted-all (counted t x) xs ∙ omega arith

pub tally_some : (x : ℕ) (xs : List ℕ) → tallied_of no_tally (Some (x ∷ xs)) ≡ Some (counted_all no_tally (x ∷ xs))
unfolding tallied_of total_of
tally_some x xs = rw (tallied_of, total_of, ne_eqb (counted_all no_tally (x ∷ xs)).count 0 (λ e. omega (arith, counted-all no_tally (x ∷ xs))))

pub tally_empty : tallied_of no_tally (Some []) ≡ None
unfolding tallied_of total_of counted_all
tally_empty = refl

not_both : {A : Type 0} {r : Option Tally} {t : Tally} → r ≡ Some t → r ≡ None → A
not_both e f = cc

pub numbers_told : (o : Option (List ℕ)) (l : TextLine) {t : Tally} → tallied_of no_tally o ≡ Some t → told.Numbers t ≡ told_of (numbers_or o l)
unfolding tallied_of
numbers_told None l e = not_both e refl
numbers_told (Some []) l e = not_both e tally_empty
numbers_told (Some (x ∷ xs)) l {t} e = sym (ap told_numbers e)

pub numbers_not : (o : Option (List ℕ)) (l : TextLine) → tallied_of no_tally o ≡ None → told_of l ≡ told_of (numbers_or o l)
numbers_not None l e = refl
numbers_not (Some []) l e = refl
numbers_not (Some (x ∷ xs)) l e = not_both (tally_some x xs) e

-- the value of DIMENSION
pub dimension_none : (o : Option (List ℕ)) → tallied_of no_tally o ≡ None → told.Other ≡ told_of (dimension_of o)
dimension_none None e = refl
dimension_none (Some []) e = refl
dimension_none (Some (x ∷ [])) e = not_both (tally_some x []) e
dimension_none (Some (x ∷ y ∷ xs)) e = refl

pub dimension_many : (o : Option (List ℕ)) {t : Tally} → tallied_of no_tally o ≡ Some t → (t.count ≡ 1 → ⊥) → told.Other ≡ told_of (dimension_of o)
unfolding counted_all
dimension_many None e h = refl
dimension_many (Some []) e h = refl
dimension_many (Some (x ∷ [])) {t} e h = let k : counted_all no_tally (x ∷ []) ≡ t = cc (tally_some x []) in absurd (h (ap (λ (u : Tally). u.count) (sym k)))
dimension_many (Some (x ∷ y ∷ xs)) e h = refl

pub dimension_one : (o : Option (List ℕ)) {t : Tally} → tallied_of no_tally o ≡ Some t → t.count ≡ 1 → told.Dimension t.first ≡ told_of (dimension_of o)
unfolding counted_all tallied_of
dimension_one None e h = not_both e refl
dimension_one (Some []) e h = not_both e tally_empty
dimension_one (Some (x ∷ [])) {t} e h = let k : counted_all no_tally (x ∷ []) ≡ t = cc (tally_some x []) in ap (λ (u : Tally). told.Dimension u.first) (sym k)
dimension_one (Some (x ∷ y ∷ xs)) {t} e h =
    let k : counted_all no_tally (x ∷ y ∷ xs) ≡ t = cc (tally_some x (y ∷ xs)) in
    absurd (omega (arith, counted-all no_tally (x ∷ y ∷ xs), ap (λ (u : Tally). u.count) k))

-- the first colon
pub colon_none : (t : List ℕ) → free colon t ≡ true → at_colon t ≡ whole
unfolding free at_colon
colon_none [] h = refl
colon_none (b ∷ t) h = step (eqb b colon) h (colon_none t)
  where
    step : (x : Bool) → (elim x [ true ↦ false | false ↦ free colon t ]) ≡ true → (free colon t ≡ true → at_colon t ≡ whole)
        → ◌≡◌ {A = Parts} (elim x [ true ↦ parts [] t | false ↦ with_byte b (at_colon t) ]) whole
    step true h f = cc
    step false h f = ap (with_byte b) (f h)

pub colon_first : (p s : List ℕ) → free colon p ≡ true → at_colon (p ++ colon ∷ s) ≡ parts p s
unfolding free at_colon
colon_first [] s h = refl
colon_first (b ∷ p) s h = step (eqb b colon) h (colon_first p s)
  where
    step : (x : Bool) → (elim x [ true ↦ false | false ↦ free colon p ]) ≡ true → (free colon p ≡ true → at_colon (p ++ colon ∷ s) ≡ parts p s)
        → ◌≡◌ {A = Parts} (elim x [ true ↦ parts [] (p ++ colon ∷ s) | false ↦ with_byte b (at_colon (p ++ colon ∷ s)) ]) (parts (b ∷ p) s)
    step true h f = cc
    step false h f = ap (with_byte b) (f h)

pub no_colon : (text : List ℕ) → position (λ b. b == colon) text ≡ None → at_colon text ≡ whole
no_colon text e = colon_none text (free_all colon text e)

pub a_colon : (text : List ℕ) {r : ℕ} → position (λ b. b == colon) text ≡ Some r → at_colon text ≡ parts (take r text) (drop (r + 1) text)
a_colon text {r} e =
    let f = found_at colon text e in
    ap at_colon (split_at text r 0 f.inside)
    ∙ ap (λ (c : ℕ). at_colon (take r text ++ c ∷ drop (suc r) text)) f.is
    ∙ colon_first (take r text) (drop (suc r) text) f.front
    ∙ rw add-one

-- the ways out of `word_line` and `read_line`
pub whole_line : (text : List ℕ) {x : code.TalliedLine} → at_colon text ≡ whole → x ≡ told_of (section_of text) → x ≡ told_of (parts_line (at_colon text) text)
whole_line text e f = f ∙ sym (ap (λ (p : Parts). told_of (parts_line p text)) e)

-- a part to the end of a text
pub part_end : (k : ℕ) (text : List ℕ) → take (length text - k) (drop k text) ≡ drop k text
part_end k text = take_all (length text - k) (drop k text) (omega (arith, length-drop k text))

pub keyword_line : (text : List ℕ) {k v : List ℕ} {o : Option Keyword} {x : code.TalliedLine} → at_colon text ≡ parts k v → keyword_of k ≡ o → x ≡ told_of (valued_as o v)
    → x ≡ told_of (parts_line (at_colon text) text)
keyword_line text {k} {v} {o} e g f =
    f ∙ ap (λ (y : Option Keyword). told_of (valued_as y v)) (sym g) ∙ sym (ap (λ (p : Parts). told_of (parts_line p text)) e)

pub number_line_told : (text : List ℕ) {t : Tally} → tallied_of no_tally (numbers_in text) ≡ Some t → told.Numbers t ≡ told_of (line_of text)
unfolding line_of
number_line_told text e = numbers_told (numbers_in text) (parts_line (at_colon text) text) e

pub word_line_told : (text : List ℕ) {x : code.TalliedLine} → tallied_of no_tally (numbers_in text) ≡ None → x ≡ told_of (parts_line (at_colon text) text) → x ≡ told_of (line_of text)
unfolding line_of
word_line_told text e f = f ∙ numbers_not (numbers_in text) (parts_line (at_colon text) text) e

-- the loop over words with what they stand for
module _ {A : Type 0} (t : List ℕ) (ps : List (Bor (List ℕ) × A)) (i : ℕ) where
  pub named_none : length ps ≤ i → named t (drop i ps) ≡ None
  unfolding named
  named_none h = rw (drop_of_length-le ps {i = i} h)

  module _ (p : Bor (List ℕ) × A) (h : i < length ps) (e : p ≡ get_or ps i p) where
    pub named_here : is_sole p.0.now t ≡ true → named t (drop i ps) ≡ Some p.1
    unfolding named
    named_here k = rw (drop-cons ps i p h, ← e, k)

    pub named_on : is_sole p.0.now t ≡ false → named t (drop i ps) ≡ named t (drop (i + 1) ps)
    unfolding named
    named_on k = rw (drop-cons ps i p h, ← e, k, add-one)

-- a section's line, where each of its words is tested
pub section_told : (a b c : Bool)
    → unwrap_or (when a (Some told.NodeSection) (when b (Some told.WeightSection) (when c (Some told.Eof) None))) told.Other
    ≡ told_of (when a node-section (when b weight-section (when c eof-line other-line)))
section_told true b c = refl
section_told false true c = refl
section_told false false true = refl
section_told false false false = refl
