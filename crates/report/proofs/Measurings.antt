-- The text of an instance from what measuring answers: tests 3 and 4, or the marking of its records. Assumes nothing.
use Prim.Native.Nat.{ℕ, ◌+◌, ◌-◌, ◌*◌}
use mathlib.Core.Path.{◌≡◌, refl, sym, ◌∙◌, ap, subst}
use mathlib.Core.Bool.{Bool, true, false}
use mathlib.Core.List.{List}
use native.Mathlib.Omega.{arith}
use lib.ListN.{length, take, drop, length-drop}
use lib.Seq.{take_all}
use borrow.Author.Tests.{eq-eqb}
use Rattle.lengths.specs.Distance.{rule_of}
use Rattle.lengths.specs.Edge.{edge_count}
use Rattle.lengths.specs.Instance.{in_range, most_coordinate}
use Rattle.lengths.specs.Measure.{measured, measured_table, table_after, left_by, MeasuredAs}
use Rattle.lists.specs.Test.{unless, all_at_most}
use Rattle.std.specs.Prelude.{Option, Some, None, is_some, Result, Ok, Err}
use Rattle.lengths.specs.Refusal.{refusal_number, refuse}
use Rattle.lengths.specs.declared.distance.Rule.{Rule}
use Rattle.lengths.specs.declared.refusal.Refusal.TheVariants as why
use Rattle.lengths.specs.declared.refusal.Refused.{Refused}
use Rattle.endian.specs.Bytes.{bytes32, whole16, whole32}
use Rattle.lengths.proofs.Filling.{measured_again}
use Rattle.lengths.proofs.AtMostTests.{at_most_each}
use Rattle.marks.specs.Fresh.{fresh_marks}
use Rattle.marking.specs.Mark.{mark_sheet}
use Rattle.report.specs.Header.{coordinates_in, records_in, header_bytes, point_bytes}
use Rattle.text.specs.Words.{Wrote}
use Rattle.report.specs.Lines.{last_line}
use Rattle.report.specs.Report.{text_by, measured_text, marked_text}

-- tests 3 and 4
abbrev Answer : Type 0
Answer = Result (Unit {0}) Refused

abbrev later : Option Rule → Bool → Answer
later named ok = unless (is_some named) (refuse why.Rule) (unless ok (refuse why.Coordinate) (Ok tt))

-- the number of a refusal, 0 of none
abbrev number : Answer → ℕ
number (Err r) = refusal_number r.refusal
number (Ok u) = 0

refused-by : (named : Option Rule) (cs : List ℕ) (n : ℕ) (records : List ℕ) {r : Refused} → later named (all_at_most most_coordinate cs) ≡ Err r
    → text_by named n cs records ≡ last_line (refusal_number r.refusal)
unfolding refusal_number
refused-by None cs n records h = ap (λ (a : Answer). last_line (number a)) h
refused-by (Some rule) cs n records {r} h = go (all_at_most most_coordinate cs) refl
  where
    go : (b : Bool) → all_at_most most_coordinate cs ≡ b → text_by (Some rule) n cs records ≡ last_line (refusal_number r.refusal)
    go true e = let g : ◌≡◌ {A = Answer} (Ok tt) (Err r) = rw e at h in absurd cc
    go false e = let g : ◌≡◌ {A = Answer} (refuse why.Coordinate) (Err r) = rw e at h in rw e (ap (λ (a : Answer). last_line (number a)) g)

done_by : (named : Option Rule) (cs : List ℕ) (n : ℕ) (records table : List ℕ) → later named (all_at_most most_coordinate cs) ≡ Ok tt
    → text_by named n cs records ≡ marked_text n (mark_sheet n (whole32 (left_by (Ok tt) named n cs table)) (fresh_marks n) records)
done_by None cs n records table h = absurd cc
done_by (Some rule) cs n records table h = go (all_at_most most_coordinate cs) refl
  where
    go : (b : Bool) → all_at_most most_coordinate cs ≡ b → text_by (Some rule) n cs records ≡ marked_text n (mark_sheet n (whole32 (bytes32 (measured_table rule cs n))) (fresh_marks n) records)
    go true e = rw (e, measured_again rule cs (at_most_each most_coordinate cs e) n)
    go false e = let g : ◌≡◌ {A = Answer} (refuse why.Coordinate) (Ok tt) = rw e at h in absurd cc

module _ (n rule : ℕ) (cs table : List ℕ) (range : in_range n ≡ true) (located : length cs ≡ 2 * n) (sized : length (whole32 table) ≡ edge_count n) where
  measured_later : measured n rule cs (length (whole32 table)) ≡ later (rule_of rule) (all_at_most most_coordinate cs)
  unfolding measured
  measured_later = rw (measured, range, eq-eqb (length cs) (2 * n) located, eq-eqb (length (whole32 table)) (edge_count n) sized)

  pub refused_text : (records : List ℕ) {q : Refused} {left : List ℕ} → MeasuredAs n rule cs table (Err q) left → measured_text rule n cs records ≡ last_line (refusal_number q.refusal)
  unfolding measured_text
  refused_text records m = refused-by (rule_of rule) cs n records (sym measured_later ∙ sym m.answered)

  pub done_text : (records : List ℕ) {left : List ℕ} → MeasuredAs n rule cs table (Ok tt) left → measured_text rule n cs records ≡ marked_text n (mark_sheet n (whole32 left) (fresh_marks n) records)
  unfolding measured_text table_after
  done_text records {left} m =
      done_by (rule_of rule) cs n records table (sym measured_later ∙ sym m.answered)
      ∙ ap (λ (t : List ℕ). marked_text n (mark_sheet n (whole32 t) (fresh_marks n) records))
      (sym (m.table-left ∙ ap (λ (a : Answer). left_by a (rule_of rule) n cs table) (sym m.answered)))

-- what is written once measuring has answered: the last line, or the text of the records
module _ (n rule : ℕ) (file : List ℕ) {r : ℕ} {cs table left out done : List ℕ} (range : in_range n ≡ true) (read : cs ≡ coordinates_in n file)
    (located : length cs ≡ 2 * n) (sized : length (whole32 table) ≡ edge_count n) where
  pub wrote_refused : {a : Answer} {q : Refused} → MeasuredAs n rule cs table a left → a ≡ Err q → Wrote out 0 (last_line (refusal_number q.refusal)) r done
      → Wrote out 0 (measured_text rule n (coordinates_in n file) (records_in n file)) r done
  wrote_refused m e w = subst (λ (t : List ℕ). Wrote out 0 t r done)
      (sym
      (ap (λ (l : List ℕ). measured_text rule n l (records_in n file)) (sym read)
      ∙ refused_text n rule cs table range located sized (records_in n file) (subst (λ (b : Answer). MeasuredAs n rule cs table b left) e m))) w

  pub wrote_done : {a : Answer} → MeasuredAs n rule cs table a left → a ≡ Ok tt
      → Wrote out 0 (marked_text n (mark_sheet n (whole32 left) (fresh_marks n) (whole16 (take (length file - (header_bytes + point_bytes * n)) (drop (header_bytes + point_bytes * n) file))))) r done
      → Wrote out 0 (measured_text rule n (coordinates_in n file) (records_in n file)) r done
  unfolding records_in
  wrote_done m e w =
      let rest : take (length file - (header_bytes + point_bytes * n)) (drop (header_bytes + point_bytes * n) file) ≡ drop (header_bytes + point_bytes * n) file =
      take_all (length file - (header_bytes + point_bytes * n)) (drop (header_bytes + point_bytes * n) file) (omega (arith, length-drop (header_bytes + point_bytes * n) file)) in
      subst (λ (t : List ℕ). Wrote out 0 t r done)
      (ap (λ (l : List ℕ). marked_text n (mark_sheet n (whole32 left) (fresh_marks n) (whole16 l))) rest
      ∙ sym
      (ap (λ (l : List ℕ). measured_text rule n l (records_in n file)) (sym read)
      ∙ done_text n rule cs table range located sized (records_in n file) (subst (λ (b : Answer). MeasuredAs n rule cs table b left) e m)))
      w
