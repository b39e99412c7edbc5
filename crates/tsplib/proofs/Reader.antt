-- The operations against the language: a text of it gets the answer of its n, weighing and data; any other gets 19 with
-- the line that is told first; and 19 is no answer to a text of the language; and a refused call leaves the table.
-- Assumes nothing.
use Prim.Native.Nat.{ℕ, ◌*◌, ◌≤◌}
use mathlib.Core.Path.{◌≡◌, refl, sym, ◌∙◌, ap, subst}
use mathlib.Core.Bool.{Bool, true, false}
use mathlib.Core.List.{List}
use native.Mathlib.Omega.{arith}
use lib.Dec.{eqb}
use lib.ListN.{length}
use Rattle.std.specs.Prelude.{Option, is_some, Result, Ok, Err}
use Rattle.lists.specs.Test.{all_at_most, unless}
use Rattle.endian.specs.Bytes.{whole32}
use Rattle.lengths.specs.Distance.{rule_of}
use Rattle.lengths.specs.Edge.{edge_count}
use Rattle.lengths.specs.Instance.{in_range, most_length, most_coordinate}
use Rattle.lengths.specs.Measure.{measured, table_after, left_by}
use Rattle.lengths.specs.Refusal.{refusal_number, refuse}
use Rattle.lengths.specs.declared.distance.Rule.{Rule as MeasureRule}
use Rattle.lengths.specs.declared.refusal.Refusal.TheVariants as refusal
use Rattle.lengths.specs.declared.refusal.Refused.{Refused}
use Rattle.tsplib_lines.specs.TextLine.{TextLine}
use Rattle.tsplib_lines.specs.declared.text_line.Weighing.{Weighing}
use Rattle.tsplib_lines.specs.declared.text_line.Weighing.TheVariants.{Explicit, Rule}
use Rattle.tsplib.specs.Language.{Tsplib, Outside}
use Rattle.tsplib.specs.FaultLine.{ToldFirst}
use Rattle.tsplib.specs.Judging.{judged, lines_of}
use Rattle.tsplib.specs.Reading.{data_of, at_call, of_measured, of_weights, filled_with, read_as, left_as, ReadAs, answer_for, left_for, ReadOf, ReadOutside, points_of}
use Rattle.tsplib.specs.declared.judging.Described.{Described}
use Rattle.tsplib.specs.declared.judging.Fault.{Fault}
use Rattle.tsplib.specs.declared.reading.TextRefused.{TextRefused}
use Rattle.tsplib.proofs.Exact.{skip_for}
use Rattle.tsplib.specs.Gathering.{gathered}
use Rattle.tsplib.proofs.FirstFault.{told_first}
use Rattle.tsplib.proofs.TextsExact.{accepted_text, text_accepted}

-- a text of the language
module _ {text : List ℕ} {n : ℕ} {w : Weighing} {xs : List ℕ} (t : Tsplib text n w xs) where
  data_is : (v : Weighing) {ys : List ℕ} → gathered (skip_for v) (lines_of text) ≡ ys → data_of v (lines_of text) ≡ ys
  data_is (Rule r) e = e
  data_is Explicit e = e

  read_inside_as : (size : ℕ) → read_as (judged text) (lines_of text) size ≡ answer_for w n xs size
  unfolding read_as
  read_inside_as size =
      let a = text_accepted text t in
      ap (λ (j : Result Described Fault). read_as j (lines_of text) size) a.verdict ∙ ap (λ (ys : List ℕ). answer_for w n ys size) (data_is w a.data_are)

  left_inside_as : (table : List ℕ) → left_as (judged text) (lines_of text) table ≡ left_for w n xs table
  unfolding left_as
  left_inside_as table =
      let a = text_accepted text t in
      ap (λ (j : Result Described Fault). left_as j (lines_of text) table) a.verdict ∙ ap (λ (ys : List ℕ). left_for w n ys table) (data_is w a.data_are)

  pub read_inside : {table : List ℕ} {answer : Result ℕ TextRefused} {left : List ℕ} → ReadAs text table answer left → ReadOf n w xs table answer left
  read_inside {table} r = record { answered = r.answered ∙ read_inside_as (length (whole32 table)); table-left = r.table-left ∙ left_inside_as table }

  pub points_inside : points_of (judged text) ≡ Ok n
  unfolding points_of
  points_inside = ap points_of (text_accepted text t).verdict

-- a text outside it
module _ (text : List ℕ) (o : Outside text) where
  outside_fault : (j : Result Described Fault) → judged text ≡ j → (f : Fault) × (judged text ≡ Err f)
  outside_fault (Err f) e = (f, e)
  outside_fault (Ok d) e = absurd (o d.n d.weighing (gathered (skip_for d.weighing) (lines_of text)) (accepted_text text e))

  pub read_outside : {table : List ℕ} {answer : Result ℕ TextRefused} {left : List ℕ} → ReadAs text table answer left → ReadOutside text table answer left
  unfolding read_as left_as
  read_outside {table} r = let f = outside_fault (judged text) refl in record {
    line = f.0.line;
    answered = r.answered ∙ ap (λ (j : Result Described Fault). read_as j (lines_of text) (length (whole32 table))) f.1;
    told = told_first text f.0.line f.1;
    untouched = r.table-left ∙ ap (λ (j : Result Described Fault). left_as j (lines_of text) table) f.1;
  }

  pub points_outside : (line : ℕ) × (points_of (judged text) ≡ Err (record { refusal = refusal.Text; line = line })) × ToldFirst text line
  unfolding points_of
  points_outside = let f = outside_fault (judged text) refl in (f.0.line, ap points_of f.1, told_first text f.0.line f.1)

-- a refusal's number is from 1 to `maximum`
abbrev pub RefusedTo : ℕ → Result ℕ TextRefused → Type 0
RefusedTo maximum (Ok n) = Unit {0}
RefusedTo maximum (Err r) = (1 ≤ refusal_number r.refusal) × (refusal_number r.refusal ≤ maximum)

measured_number : (maximum n rule : ℕ) (cs : List ℕ) (size : ℕ) → 5 ≤ maximum → RefusedTo maximum (of_measured n (measured n rule cs size))
unfolding measured of_measured refusal_number
measured_number maximum n rule cs size h =
    go (in_range n) (eqb (length cs) (2 * n)) (eqb size (edge_count n)) (is_some (rule_of rule)) (all_at_most most_coordinate cs)
  where
    go : (a b c d e : Bool)
        → RefusedTo maximum
        (of_measured n
        (unless a (refuse refusal.Points)
        (unless b (refuse refusal.Size) (unless c (refuse refusal.Size) (unless d (refuse refusal.Rule) (unless e (refuse refusal.Coordinate) (Ok tt)))))))
    go false b c d e = (omega arith, omega arith)
    go true false c d e = (omega arith, omega arith)
    go true true false d e = (omega arith, omega arith)
    go true true true false e = (omega arith, omega arith)
    go true true true true false = (omega arith, omega arith)
    go true true true true true = tt

weights_number : (maximum n : ℕ) (ws : List ℕ) (size : ℕ) → 5 ≤ maximum → RefusedTo maximum (of_weights n ws size)
unfolding of_weights refusal_number
weights_number maximum n ws size h = go (in_range n) (eqb size (edge_count n)) (all_at_most most_length ws)
  where
    go : (a b c : Bool) → RefusedTo maximum (unless a (Err (at_call refusal.Points)) (unless b (Err (at_call refusal.Size)) (unless c (Err (at_call refusal.Length)) (Ok n))))
    go false b c = (omega arith, omega arith)
    go true false c = (omega arith, omega arith)
    go true true false = (omega arith, omega arith)
    go true true true = tt

answer_to : (maximum : ℕ) (w : Weighing) (n : ℕ) (xs : List ℕ) (size : ℕ) → 5 ≤ maximum → RefusedTo maximum (answer_for w n xs size)
unfolding answer_for
answer_to maximum (Rule r) n xs size h = measured_number maximum n r xs size h
answer_to maximum Explicit n xs size h = weights_number maximum n xs size h

-- 19 is the largest
pub answer_number : (j : Result Described Fault) (ls : List TextLine) (size : ℕ) → RefusedTo 19 (read_as j ls size)
unfolding read_as refusal_number
answer_number (Err f) ls size = (omega arith, omega arith)
answer_number (Ok d) ls size = answer_to 19 d.weighing d.n (data_of d.weighing ls) size (omega arith)

-- 19 is no answer to a text of the language
pub refused_outside : {text table left : List ℕ} {line : ℕ} → ReadAs text table (Err (record { refusal = refusal.Text; line = line })) left → Outside text
unfolding refusal_number
refused_outside {table = table} {line = line} r n w xs t =
    let k = answer_to 5 w n xs (length (whole32 table)) (omega arith) in
    let h : RefusedTo 5 (Err (record { refusal = refusal.Text; line = line })) = subst (RefusedTo 5) (sym (read_inside t r).answered) k in
    omega (arith, h.1)

-- a refused call leaves the table, whatever its refusal
pub refused_left : {text table left : List ℕ} {r : TextRefused} → ReadAs text table (Err r) left → left ≡ table
unfolding read_as left_as answer_for left_for of_measured table_after
refused_left {text} {table} {left} {r} a = a.table-left ∙ go (judged text) a.answered
  where
    by_measure : (n : ℕ) (cs : List ℕ) (m : Result Unit Refused) (rule : Option MeasureRule) → Err r ≡ of_measured n m → left_by m rule n cs table ≡ table
    by_measure n cs (Ok u) rule e = cc
    by_measure n cs (Err x) rule e = refl

    by_weighing : (w : Weighing) (n : ℕ) (xs : List ℕ) → Err r ≡ answer_for w n xs (length (whole32 table)) → left_for w n xs table ≡ table
    by_weighing (Rule rule) n xs e = by_measure n xs (measured n rule xs (length (whole32 table))) (rule_of rule) e
    by_weighing Explicit n xs e = ap (λ (x : Result ℕ TextRefused). filled_with x xs table) (sym e)

    go : (j : Result Described Fault) → Err r ≡ read_as j (lines_of text) (length (whole32 table)) → left_as j (lines_of text) table ≡ table
    go (Err f) e = refl
    go (Ok d) e = by_weighing d.weighing d.n (data_of d.weighing (lines_of text)) e
