-- AGREEMENT (02, Paper 11): "Where low and high agree everywhere, verdicts are those of one table". Over the same table
-- twice each operation is the one-table operation: what it answers, and what it leaves. Assumes nothing.
use Prim.Native.Nat.{ℕ}
use mathlib.Core.Path.{◌≡◌, refl, ◌∙◌, ap}
use mathlib.Core.Bool.{Bool, true, false, false≢true}
use mathlib.Core.List.{List, [], ◌∷◌, map}
use lib.Dec.{eqb}
use lib.ListN.{length}
use Rattle.std.specs.Prelude.{Result, Ok, Err}
use Rattle.lengths.specs.declared.refusal.Refusal.{Refusal}
use Rattle.lengths.specs.declared.refusal.Refusal.TheVariants as refusal
use Rattle.lengths.specs.Refusal.{refuse}
use Rattle.endian.specs.Bytes.{whole16, whole32}
use Rattle.lengths.specs.Edge.{edge_count}
use Rattle.lengths.specs.Instance.{in_range, most_length}
use Rattle.lengths.proofs.AtMostTests.{order_same}
use Rattle.lists.specs.Test.{all_at_most, each_at_most, unless}
use Rattle.marks.specs.Mark.{struck_mark}
use Rattle.marks.specs.Packed.{marks_of}
use Rattle.admission.specs.Tests.{tested_table, tested_intervals, until_marks, tested_between, ready_between, tested, until_pending, ready}
use Rattle.marking.specs.MarkBetween.{mark_between, mark_between_packed}
use Rattle.marking.specs.ListBetween.{listed_between}
use Rattle.marking.specs.Listing.{list_tested, listed, list_left_of}
use Rattle.marking.specs.Mark.{mark_tested, mark_by, mark_sheet, repack, mark_packed_by, mark_packed}
use Rattle.lengths.specs.declared.refusal.Refused.{Refused}
use Rattle.revosti.specs.Between.{mark_between_in_c}
use Rattle.revosti.specs.Mark.{mark_in_c}
use Rattle.demands.specs.Run.{Call, marking, marking-between, one_table, steps_of, run}

module _ (n : ℕ) (table marks : List ℕ) where
  -- the tests: 2 and 5 made a second time refuse nothing more, and 25 refuses nothing
  intervals_agree : tested_intervals n table table ≡ tested_table n table
  unfolding tested_intervals tested_table
  intervals_agree = by (in_range n) (eqb (length table) (edge_count n)) (all_at_most most_length table) (each_at_most table table) (order_same table)
    where
      by : (a b c d : Bool) → d ≡ true →
          unless a (Err refusal.Points) (unless b (Err refusal.Size) (unless b (Err refusal.Size) (unless c (Err refusal.Length) (unless c (Err refusal.Length) (unless d (Err refusal.Limits) (Ok n))))))
          ≡ unless a (Err refusal.Points) (unless b (Err refusal.Size) (unless c (Err refusal.Length) (Ok n)))
      by false b c d e = refl
      by true false c d e = refl
      by true true false d e = refl
      by true true true false e = absurd (false≢true e)
      by true true true true e = refl

  pub tested_agrees : tested_between n table table marks ≡ tested n table marks
  unfolding tested_between tested
  tested_agrees = ap (λ (t : Result ℕ Refusal). until_marks t marks) intervals_agree

  pub ready_agrees : ready_between n table table marks ≡ ready n table marks
  unfolding ready_between ready
  ready_agrees = ap (λ (t : Result ℕ Refusal). until_pending t marks) tested_agrees

  -- MARKING: the verdict, the lines and the marks left. Behind the same tests it is the same sheet under the same
  -- rules.
  pub mark_agrees : (s : List ℕ) → mark_between n table table marks s ≡ mark_sheet n table marks s
  unfolding mark_between mark_by
  mark_agrees s = ap (λ (t : Result ℕ Refusal). mark_tested struck_mark t table table marks s) ready_agrees

  -- LISTING PAIRS: the answer, and the list's bytes
  pub list_agrees : (a b c size : ℕ) → listed_between n table table marks a b c size ≡ listed n table marks a b c size
  unfolding listed_between listed
  list_agrees a b c size = ap (λ (t : Result ℕ Refusal). list_tested t table table marks a b c size) tested_agrees

  pub list_left_agrees : (a b c size : ℕ) (list : List ℕ) →
      list_left_of (listed_between n table table marks a b c size) n table table marks a b c list ≡ list_left_of (listed n table marks a b c size) n table table marks a b c list
  list_left_agrees a b c size list = ap (λ (l : Result ℕ Refused). list_left_of l n table table marks a b c list) (list_agrees a b c size)

-- MARKING of packed sets; listing is about the marks that a set holds, which `list_agrees` says of any
pub mark_packed_agrees : (n : ℕ) (table set s : List ℕ) → mark_between_packed n table table set s ≡ mark_packed n table set s
unfolding mark_between_packed mark_packed_by
mark_packed_agrees n table set s = ap (repack n set) (mark_agrees n table (marks_of n set) s)

-- and for C
pub mark_agrees_in_c : (n : ℕ) (table set s : List ℕ) → mark_between_in_c n table table set s ≡ mark_in_c struck_mark n table set s
mark_agrees_in_c n table set s = mark_packed_agrees n (whole32 table) set (whole16 s)

-- RUNS, call by call
pub run_agrees : (table : List ℕ) (calls : List Call) (m : List ℕ) → steps_of (one_table table) (map marking-between calls) m ≡ steps_of (one_table table) (map marking calls) m
unfolding run
run_agrees table [] m = refl
run_agrees table (call ∷ calls) m =
    ap (λ r. steps_of (one_table table) (map marking-between calls) r.marks) (mark_agrees call.n table m call.sheet) ∙ run_agrees table calls _
