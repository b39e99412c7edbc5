-- "Mark a sheet" over two tables in code: one lemma for each way out of `mark_between`. Assumes nothing.
use Prim.Native.Nat.{ℕ}
use mathlib.Core.Path.{◌≡◌}
use mathlib.Core.List.{List}
use native.Mathlib.Omega.{arith}
use Rattle.std.specs.Prelude.{Result, Ok, Err}
use Rattle.lengths.specs.declared.refusal.Refusal.{Refusal}
use Rattle.argument.specs.Sheet.{sheet}
use Rattle.marks.specs.Mark.{struck_mark}
use Rattle.marks.specs.Packed.{marks_of}
use Rattle.sheets.specs.Verdict.{Verdict, stopped_at_call, result_of}
use Rattle.sheets.specs.Rules.{marking_between}
use Rattle.admission.specs.Tests.{ready_between}
use Rattle.marking.specs.Mark.{until_sheet}
use Rattle.marking.specs.MarkBetween.{mark_between, mark_between_packed}
use Rattle.marking.specs.asks.Mark.{AdmittedBy}
use Rattle.marking.specs.declared.mark.Passed.{Passed}
use Rattle.marking.proofs.MarkingSheets.{sheet_passed, admits_between, untested, marked}
use Rattle.admission.proofs.Passed.{passed_ready}

module _ (n : ℕ) (low high set s : List ℕ) where
  abbrev base : Result ℕ Refusal
  base = ready_between n low high (marks_of n set)

  pub between_untested : {x : Refusal} → until_sheet (ready_between n low high (marks_of n set)) s ≡ Err x → result_of (Err (stopped_at_call x)) set ≡ mark_between_packed n low high set s
  unfolding mark_between mark_between_packed
  between_untested h = untested struck_mark n low high set base s h

  module _ {p : Passed} (h : until_sheet (ready_between n low high (marks_of n set)) s ≡ Ok p) where
    pub between_admits : AdmittedBy struck_mark p.points low high (marks_of p.points set) s p.records
    between_admits = admits_between set base s (omega arith) h (passed_ready (sheet_passed base s h).ready)

    pub between_lines : (v : Verdict) (left : List ℕ) → result_of v (marks_of p.points left) ≡ sheet (marking_between struck_mark p.points low high) s (marks_of p.points set)
        → result_of v left ≡ mark_between_packed n low high set s
    unfolding mark_between mark_between_packed
    between_lines v left q = marked struck_mark n low high set base s h (passed_ready (sheet_passed base s h).ready) v left (omega arith) q
