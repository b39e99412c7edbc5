-- REFUSALS ARE THOSE OF THE RULES, of the operations that mark: a call that passes the tests answers what its lines
-- come to by any lists of pairs which name exactly the feasible ones (`FeasiblePair`), rising, on the sets that an
-- argument comes to: verdict, number and record of a refusal, lines and marks. So 14 is told by `FeasiblePair`, and how
-- the list is computed has no part in it. Assumes nothing.
use Prim.Native.Nat.{ℕ}
use mathlib.Core.Path.{◌≡◌, sym, ◌∙◌, ap}
use mathlib.Core.List.{List}
use Rattle.lengths.specs.Edge.{Edge}
use Rattle.marks.specs.Mark.{struck_mark}
use Rattle.marks.specs.Packed.{marks_of}
use Rattle.argument.specs.Sheet.{marking_listed, sheet}
use Rattle.argument.proofs.AnyList.{sheet_any_list}
use Rattle.endian.specs.Bytes.{whole16, whole32}
use Rattle.sheets.specs.Rules.{marking_by, marking_between}
use Rattle.marking.specs.MarkBetween.{mark_between, mark_between_packed}
use Rattle.admission.specs.Tests.{ready_between, ready}
use Rattle.marking.specs.Mark.{mark_by, repack, mark_packed_by}
use Rattle.revosti.specs.Between.{mark_between_in_c}
use Rattle.revosti.specs.Mark.{mark_in_c}
use Rattle.demands.specs.Marked.{Passes, PassesBetween, ListsExactly}
use Rattle.demands.proofs.Lawful.{lawful_between}
use Rattle.demands.proofs.SheetLines.{lines_marked}

module _ (lists : List ℕ → List Edge → ℕ → List Edge) where
  -- MARKING AND ASKING over one table
  pub mark_any_lists : (mark n : ℕ) (table set s : List ℕ) → ListsExactly n table table lists → Passes n table (marks_of n set) s →
      mark_packed_by mark n table set s ≡ repack n set (sheet (marking_listed (marking_by mark n table) lists) s (marks_of n set))
  unfolding mark_packed_by mark_by
  mark_any_lists mark n table set s exactly p =
      ap (repack n set) (
      lines_marked mark n table table (marks_of n set) s (ready n table (marks_of n set)) p.points p.whole
      ∙ sym (sheet_any_list (marking_by mark n table) (lawful_between n table table) lists exactly s (marks_of n set))
      )

  pub mark_any_lists_in_c : (mark n : ℕ) (table set s : List ℕ) → ListsExactly n (whole32 table) (whole32 table) lists → Passes n (whole32 table) (marks_of n set) (whole16 s) →
      mark_in_c mark n table set s ≡ repack n set (sheet (marking_listed (marking_by mark n (whole32 table)) lists) (whole16 s) (marks_of n set))
  mark_any_lists_in_c mark n table set s = mark_any_lists mark n (whole32 table) set (whole16 s)

  -- and over low and high
  pub between_any_lists : (n : ℕ) (low high set s : List ℕ) → ListsExactly n low high lists → PassesBetween n low high (marks_of n set) s →
      mark_between_packed n low high set s ≡ repack n set (sheet (marking_listed (marking_between struck_mark n low high) lists) s (marks_of n set))
  unfolding mark_between_packed mark_between
  between_any_lists n low high set s exactly p =
      ap (repack n set) (
      lines_marked struck_mark n low high (marks_of n set) s (ready_between n low high (marks_of n set)) p.points p.whole
      ∙ sym (sheet_any_list (marking_between struck_mark n low high) (lawful_between n low high) lists exactly s (marks_of n set))
      )

  pub between_any_lists_in_c : (n : ℕ) (low high set s : List ℕ) → ListsExactly n (whole32 low) (whole32 high) lists → PassesBetween n (whole32 low) (whole32 high) (marks_of n set) (whole16 s) →
      mark_between_in_c n low high set s ≡ repack n set (sheet (marking_listed (marking_between struck_mark n (whole32 low) (whole32 high)) lists) (whole16 s) (marks_of n set))
  between_any_lists_in_c n low high set s = between_any_lists n (whole32 low) (whole32 high) set (whole16 s)
