-- The numbers of a text gathered line by line, and of a line byte by byte: what is written and what is left are all.
-- Assumes nothing.
use Prim.Native.Nat.{ℕ, ◌+◌, ◌-◌, ◌*◌, ◌%◌, ◌≤◌, ◌<◌}
use mathlib.Core.Path.{◌≡◌, refl, sym, ◌∙◌, ap, ap₂, subst}
use mathlib.Core.Bool.{Bool, true, false}
use mathlib.Core.List.{List, [], ◌∷◌, ◌++◌, append_assoc, append-nil}
use native.Mathlib.Numerals.{add-one}
use native.Mathlib.Omega.{arith}
use lib.Dec.{eqb, leb, ltb}
use lib.ListN.{length, get_or, take, drop, length-append, drop_of_length-le, length-drop}
use lib.Seq.{drop-cons}
use borrow.Author.Tests.{ne_eqb, ltb-true, leb-true}
use Rattle.std.specs.Prelude.{Option, Some, None, position, ◌==◌}
use Rattle.lists.proofs.Bools.{and_left, and_right}
use Rattle.text.specs.Words.{blank}
use Rattle.tsplib_lines.specs.Words.{newline, is_sole, tsp_word, upper_row_word, node_section_word, weight_section_word, eof_word}
use Rattle.tsplib_lines.specs.Numbers.{number_limit, at_blank, at_digit, is_digit, numbers_from, numbers_in, no_tally, tallied_of}
use Rattle.tsplib_lines.specs.TextLine.{TextLine, other-line, type-line, format-line, node-section, weight-section, eof-line, Parts, whole, parts, when, numbers_or, parts_line, at_colon, section_of, valued, valued_as, keyword_of, weighing_of, weighing_line, dimension_of, line_of}
use Rattle.tsplib_lines.specs.declared.text_line.Keyword.{Keyword}
use Rattle.tsplib_lines.specs.declared.text_line.Weighing.{Weighing}
use Rattle.tsplib_lines.specs.declared.text_line.Keyword.TheVariants as keyword
use Rattle.tsplib_lines.specs.declared.numbers.Tally.{Tally}
use Rattle.tsplib_lines.proofs.NumbersExact.{some_is, none_some, with_some}
use Rattle.tsplib_lines.proofs.LineReading.{tally_some, tally_empty}
use Rattle.tsplib.specs.Judging.{lines_of}
use Rattle.tsplib.specs.Gathering.{numbers_of, gathered}
use Rattle.tsplib.specs.asks.Gathering.{RoomFor, WroteNumbers, WroteTo, number_of, ended_by, grown, begun_behind, taken_from}
use Rattle.tsplib.specs.declared.gathering.Slot.{Slot}
use Rattle.tsplib.proofs.Entries.{wrote_nothing, wrote_more, drop_both}
use Rattle.tsplib.proofs.TextLines.{lines_next, lines_none, next_line}
use Rattle.tsplib_lines.proofs.SoleWords.{FoundAt, free_all}

-- the number that a byte ends
pub ended_none : (b : ℕ) (p : Option ℕ) → (b ≡ blank → ⊥) → ended_by b p ≡ []
ended_none b p h = rw (ended_by, ne_eqb b blank h)

-- the numbers that are taken are those of the text
taken_blank : (p : Option ℕ) (t : List ℕ) {xs : List ℕ} → ((q : Option ℕ) (ys : List ℕ) → numbers_from q t ≡ Some ys → taken_from q t ≡ ys)
    → at_blank p (λ (q : Option ℕ). numbers_from q t) ≡ Some xs → number_of p ++ taken_from None t ≡ xs
taken_blank None t {xs} ih e = ih None xs e
taken_blank (Some v) t {xs} ih e = with_some v (numbers_from None t) e (λ ys f g. ap (λ (zs : List ℕ). v ∷ zs) (ih None ys f) ∙ g)

taken_digit : (b : ℕ) (p : Option ℕ) (t : List ℕ) {xs : List ℕ} → 48 ≤ b → b ≤ 57 → ((q : Option ℕ) (ys : List ℕ) → numbers_from q t ≡ Some ys → taken_from q t ≡ ys)
    → at_digit (b - 48) p (λ (q : Option ℕ). numbers_from q t) ≡ Some xs → taken_from (Some (grown b p)) t ≡ xs
taken_digit b None t {xs} l h ih e =
    let d : b % 16 ≡ b - 48 = omega arith in
    ap (λ (v : ℕ). taken_from (Some v) t) d ∙ ih (Some (b - 48)) xs e
taken_digit b (Some v) t {xs} l h ih e = go (ltb (10 * v + (b - 48)) number_limit) refl e
  where
    go : (x : Bool) → ltb (10 * v + (b - 48)) number_limit ≡ x → (elim x [ true ↦ numbers_from (Some (10 * v + (b - 48))) t | false ↦ None ]) ≡ Some xs
        → taken_from (Some ((10 * v + b % 16) % number_limit)) t ≡ xs
    go true f e =
        let k : 10 * v + (b - 48) < number_limit = ltb-true (10 * v + (b - 48)) number_limit f in
        let d : b % 16 ≡ b - 48 = omega arith in
        let m : (10 * v + b % 16) % number_limit ≡ 10 * v + (b - 48) = omega arith in
        ap (λ (n : ℕ). taken_from (Some n) t) m ∙ ih (Some (10 * v + (b - 48))) xs e
    go false f e = none_some e

taken : (t : List ℕ) (p : Option ℕ) (xs : List ℕ) → numbers_from p t ≡ Some xs → taken_from p t ≡ xs
unfolding numbers_from taken_from
taken [] None xs e = some_is e
taken [] (Some v) xs e = some_is e
taken (b ∷ t) p xs e = go (eqb b blank) (is_digit b) refl (taken t) e
  where
    go : (x y : Bool) → is_digit b ≡ y → ((q : Option ℕ) (ys : List ℕ) → numbers_from q t ≡ Some ys → taken_from q t ≡ ys)
        → (elim x [
          | true ↦ at_blank p (λ (q : Option ℕ). numbers_from q t)
          | false ↦ elim y [ true ↦ at_digit (b - 48) p (λ (q : Option ℕ). numbers_from q t) | false ↦ None ]
        ]) ≡ Some xs
        → (elim x [ true ↦ number_of p | false ↦ [] ]) ++ taken_from (elim x [ true ↦ None | false ↦ Some (grown b p) ]) t ≡ xs
    go true y f ih e = taken_blank p t ih e
    go false true f ih e = taken_digit b p t (leb-true 48 b (and_left (leb 48 b) (leb b 57) f)) (leb-true b 57 (and_right (leb 48 b) (leb b 57) f)) ih e
    go false false f ih e = none_some e

-- a line that is no numbers has None
no-tally : {t : Tally} → tallied_of no_tally None ≡ Some t → ⊥
unfolding tallied_of
no-tally e = cc

when_none : (x : Bool) (l m : TextLine) → numbers_of l ≡ [] → numbers_of m ≡ [] → numbers_of (when x l m) ≡ []
when_none true l m e f = e
when_none false l m e f = f

section_none : (t : List ℕ) → numbers_of (section_of t) ≡ []
unfolding section_of numbers_of
section_none t = go (is_sole node_section_word t) (is_sole weight_section_word t) (is_sole eof_word t)
  where
    go : (x y z : Bool) → numbers_of (when x node-section (when y weight-section (when z eof-line other-line))) ≡ []
    go true y z = refl
    go false true z = refl
    go false false true = refl
    go false false false = refl

dimension_none : (o : Option (List ℕ)) → numbers_of (dimension_of o) ≡ []
unfolding numbers_of
dimension_none None = refl
dimension_none (Some []) = refl
dimension_none (Some (x ∷ [])) = refl
dimension_none (Some (x ∷ y ∷ xs)) = refl

weighing_none : (n : Option Weighing) → numbers_of (weighing_line n) ≡ []
unfolding numbers_of
weighing_none (Some w) = refl
weighing_none None = refl

valued_none : (k : Keyword) (v : List ℕ) → numbers_of (valued k v) ≡ []
unfolding numbers_of
valued_none keyword.Name v = refl
valued_none keyword.Comment v = refl
valued_none keyword.Type v = when_none (is_sole tsp_word v) type-line other-line refl refl
valued_none keyword.Dimension v = dimension_none (numbers_in v)
valued_none keyword.WeightType v = weighing_none (weighing_of v)
valued_none keyword.WeightFormat v = when_none (is_sole upper_row_word v) format-line other-line refl refl

keyed_none : (o : Option Keyword) (v : List ℕ) → numbers_of (valued_as o v) ≡ []
unfolding numbers_of
keyed_none (Some key) v = valued_none key v
keyed_none None v = refl

pub parts_none : (p : Parts) (t : List ℕ) → numbers_of (parts_line p t) ≡ []
parts_none whole t = section_none t
parts_none (parts k v) t = keyed_none (keyword_of k) v

pub line_numbers_none : (l : List ℕ) → tallied_of no_tally (numbers_in l) ≡ None → numbers_of (line_of l) ≡ []
unfolding line_of
line_numbers_none l e = go (numbers_in l) e
  where
    go : (o : Option (List ℕ)) → tallied_of no_tally o ≡ None → numbers_of (numbers_or o (parts_line (at_colon l) l)) ≡ []
    go None e = parts_none (at_colon l) l
    go (Some []) e = parts_none (at_colon l) l
    go (Some (x ∷ xs)) e = let k = tally_some x xs in cc

pub line_numbers_some : (l : List ℕ) {t : Tally} → tallied_of no_tally (numbers_in l) ≡ Some t → taken_from None l ≡ numbers_of (line_of l)
unfolding line_of numbers_in numbers_of
line_numbers_some l {t} e = go (numbers_from None l) refl e
  where
    go : (o : Option (List ℕ)) → numbers_from None l ≡ o → tallied_of no_tally o ≡ Some t → taken_from None l ≡ numbers_of (numbers_or o (parts_line (at_colon l) l))
    go None f e = absurd (no-tally e)
    go (Some []) f e = let k = tally_empty in cc
    go (Some (x ∷ xs)) f e = taken l None (x ∷ xs) f

-- the loop over the bytes of a line
pub record Writing (text : List ℕ) (skip : ℕ) (out₀ : List ℕ) (at : ℕ) (p : Option ℕ) (spot : Slot) (i : ℕ) (out : List ℕ) : Type 0 where
  pub inside : i ≤ length text
  pub done : List ℕ
  pub split : drop skip (taken_from None text) ≡ done ++ drop spot.skip (taken_from p (drop i text))
  pub wrote : WroteNumbers out₀ at done spot.at out

pub writing_start : (text : List ℕ) (skip : ℕ) (out : List ℕ) (at : ℕ) → Writing text skip out at None (record { skip = skip; at = at }) 0 out
writing_start text skip out at = record { inside = omega arith; done = []; split = refl; wrote = wrote_nothing out at }

-- room for all is room for the next, once those before it are written
next_room : {out₀ out : List ℕ} {at r : ℕ} {all done : List ℕ} (next rest : List ℕ) → RoomFor out₀ at all → all ≡ done ++ (next ++ rest) → WroteNumbers out₀ at done r out → RoomFor out r next
next_room {out₀} {out} {at} {r} {all} {done} next rest m e w = record {
  room = omega (arith, m.room, ap length e, length-append done (next ++ rest), length-append next rest, w.next, w.wrote.kept);
}

module _ {text : List ℕ} {skip : ℕ} {out₀ : List ℕ} {at : ℕ} {p : Option ℕ} {spot : Slot} {i : ℕ} {out : List ℕ} (w : Writing text skip out₀ at p spot i out) where
  module _ (h : i < length text) where
    rest : List ℕ
    rest = taken_from (begun_behind (get_or text i 0) p) (drop (i + 1) text)

    next_split : drop skip (taken_from None text) ≡ w.done ++ (drop spot.skip (ended_by (get_or text i 0) p) ++ drop (spot.skip - length (ended_by (get_or text i 0) p)) rest)
    unfolding taken_from rest
    next_split =
        w.split
        ∙ ap (λ (t : List ℕ). w.done ++ drop spot.skip (taken_from p t)) (drop-cons text i 0 h ∙ ap (λ (k : ℕ). get_or text i 0 ∷ drop k text) (sym (add-one i)))
        ∙ ap (λ (t : List ℕ). w.done ++ t) (drop_both spot.skip (ended_by (get_or text i 0) p) rest)

    pub ended_room : RoomFor out₀ at (drop skip (taken_from None text)) → RoomFor out spot.at (drop spot.skip (ended_by (get_or text i 0) p))
    ended_room m = next_room (drop spot.skip (ended_by (get_or text i 0) p)) (drop (spot.skip - length (ended_by (get_or text i 0) p)) rest) m next_split w.wrote

    module _ {spot' : Slot} {out' : List ℕ} (e : WroteTo out spot (ended_by (get_or text i 0) p) spot' out') where
      pub writing_on : {q : Option ℕ} → q ≡ begun_behind (get_or text i 0) p → Writing text skip out₀ at q spot' (i + 1) out'
      unfolding rest
      writing_on {q} f = record {
        inside = omega arith;
        done = w.done ++ drop spot.skip (ended_by (get_or text i 0) p);
        split =
            next_split
            ∙ sym (append_assoc w.done (drop spot.skip (ended_by (get_or text i 0) p)) (drop (spot.skip - length (ended_by (get_or text i 0) p)) rest))
            ∙ ap₂
            (λ (k : ℕ) (x : Option ℕ). (w.done ++ drop spot.skip (ended_by (get_or text i 0) p)) ++ drop k (taken_from x (drop (i + 1) text)))
            (sym e.skipped)
            (sym f);
        wrote = wrote_more w.wrote e.wrote;
      }

  module _ (h : length text ≤ i) where
    pub last_split : drop skip (taken_from None text) ≡ w.done ++ drop spot.skip (number_of p)
    unfolding taken_from
    last_split = w.split ∙ ap (λ (t : List ℕ). w.done ++ drop spot.skip (taken_from p t)) (drop_of_length-le text h)

    pub begun_room : RoomFor out₀ at (drop skip (taken_from None text)) → RoomFor out spot.at (drop spot.skip (number_of p))
    begun_room m = next_room (drop spot.skip (number_of p)) [] m (last_split ∙ ap (λ (t : List ℕ). w.done ++ t) (sym (append-nil (drop spot.skip (number_of p))))) w.wrote

    pub writing_done : {r : Slot} {left : List ℕ} → WroteTo out spot (number_of p) r left → WroteNumbers out₀ at (drop skip (taken_from None text)) r.at left
    writing_done {r} {left} e = subst (λ (xs : List ℕ). WroteNumbers out₀ at xs r.at left) (sym last_split) (wrote_more w.wrote e.wrote)

-- the loop over the lines
pub record Gathering (text : List ℕ) (skip : ℕ) (out₀ : List ℕ) (rest : List ℕ) (at : ℕ) (out : List ℕ) : Type 0 where
  pub inside : length rest ≤ length text
  pub done : List ℕ
  pub split : gathered skip (lines_of text) ≡ done ++ gathered skip (lines_of rest)
  pub wrote : WroteNumbers out₀ 0 done at out

pub gathering_start : (text : List ℕ) (skip : ℕ) (out : List ℕ) → Gathering text skip out text 0 out
gathering_start text skip out = record { inside = omega arith; done = []; split = refl; wrote = wrote_nothing out 0 }

module _ {text : List ℕ} {skip : ℕ} {out₀ rest : List ℕ} {at : ℕ} {out : List ℕ} (g : Gathering text skip out₀ rest at out) where
  pub gathering_ends : position (λ b. b == newline) rest ≡ None → WroteNumbers out₀ 0 (gathered skip (lines_of text)) at out
  unfolding gathered
  gathering_ends e =
      let n : gathered skip (lines_of rest) ≡ [] = ap (gathered skip) (lines_none rest (free_all newline rest e)) in
      subst (λ (xs : List ℕ). WroteNumbers out₀ 0 xs at out) (sym (g.split ∙ ap (λ (t : List ℕ). g.done ++ t) n ∙ append-nil g.done)) g.wrote

  module _ {r : ℕ} (f : FoundAt newline rest r) where
    next_lines : gathered skip (lines_of text) ≡ g.done ++ (drop skip (numbers_of (line_of (take r rest))) ++ gathered skip (lines_of (drop (r + 1) rest)))
    unfolding gathered
    next_lines =
        g.split
        ∙ ap (λ (t : List ℕ). g.done ++ gathered skip (lines_of t)) (next_line rest f)
        ∙ ap (λ (ls : List TextLine). g.done ++ gathered skip ls) (lines_next (take r rest) (drop (r + 1) rest) f.front)

    pub line_room : RoomFor out₀ 0 (gathered skip (lines_of text)) → RoomFor out at (drop skip (numbers_of (line_of (take r rest))))
    line_room m = next_room (drop skip (numbers_of (line_of (take r rest)))) (gathered skip (lines_of (drop (r + 1) rest))) m next_lines g.wrote

    pub gathering_on : {at' : ℕ} {out' : List ℕ} → WroteNumbers out at (drop skip (numbers_of (line_of (take r rest)))) at' out' → Gathering text skip out₀ (drop (r + 1) rest) at' out'
    gathering_on w = record {
      inside = omega (arith, g.inside, length-drop (r + 1) rest);
      done = g.done ++ drop skip (numbers_of (line_of (take r rest)));
      split = next_lines ∙ sym (append_assoc g.done (drop skip (numbers_of (line_of (take r rest)))) (gathered skip (lines_of (drop (r + 1) rest))));
      wrote = wrote_more g.wrote w;
    }
