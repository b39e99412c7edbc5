-- The parts of a file: its coordinates, and the text of its records once they are marked from fresh marks on.
-- Assumes nothing.
use Prim.Native.Nat.{ℕ, ◌+◌, ◌-◌, ◌*◌, ◌≤◌}
use mathlib.Core.Path.{◌≡◌, sym, ◌∙◌, ap, subst}
use mathlib.Core.Bool.{true}
use mathlib.Core.List.{List}
use native.Mathlib.Omega.{arith}
use lib.ListN.{length, take, drop, length-drop}
use lib.Seq.{length-take-le}
use borrow.Author.Tests.{eq-eqb}
use Rattle.argument.specs.Sheet.{Result}
use Rattle.sheets.specs.Verdict.{Verdict, result_of}
use Rattle.endian.specs.Bytes.{whole32}
use Rattle.endian.proofs.Reading.{whole_count32}
use Rattle.lengths.specs.Edge.{edge_count}
use Rattle.std.specs.Prelude.{Ok}
use Rattle.lengths.specs.Instance.{in_range}
use Rattle.marks.specs.Fresh.{fresh_set_answer, fresh_marks}
use Rattle.marks.specs.Mark.{struck_mark}
use Rattle.marks.specs.Packed.{packed, packed_size, marks_of}
use Rattle.marks.proofs.FreshMarks.{fresh_byte_set}
use Rattle.marking.specs.Mark.{mark_sheet, mark_packed}
use Rattle.marking.proofs.MarkingSheets.{result_marks}
use Rattle.marking.proofs.PackedSheets.{mark_byte_set, mark_held}
use Rattle.text.specs.Words.{Wrote}
use Rattle.report.specs.Header.{coordinates_in, header_bytes, point_bytes}
use Rattle.report.specs.Lines.{all_lines}
use Rattle.report.specs.Report.{marked_text}
use Rattle.report.specs.asks.Lines.{told}
use Rattle.report.proofs.Reports.{verdict_text}

-- the bytes between the header and the records are the coordinates, two for each point
module _ (n : ℕ) (file : List ℕ) where
  pub coordinates_read : whole32 (take (header_bytes + point_bytes * n - header_bytes) (drop header_bytes file)) ≡ coordinates_in n file
  unfolding coordinates_in
  coordinates_read =
      let e : header_bytes + point_bytes * n - header_bytes ≡ point_bytes * n = omega arith in
      ap (λ (k : ℕ). whole32 (take k (drop header_bytes file))) e

  pub coordinates_size : header_bytes + point_bytes * n ≤ length file → length (coordinates_in n file) ≡ 2 * n
  unfolding coordinates_in
  coordinates_size whole =
      let bytes : List ℕ = take (point_bytes * n) (drop header_bytes file) in
      let size : length bytes ≡ point_bytes * n = length-take-le (point_bytes * n) (drop header_bytes file) (omega (arith, length-drop header_bytes file)) in
      omega (arith, size, whole_count32 bytes (omega (arith, size)))

-- fresh marks of a set of the right size are not refused
pub fresh_done : (n : ℕ) (set : List ℕ) → in_range n ≡ true → length set ≡ packed_size n → fresh_set_answer n (length set) ≡ Ok tt
unfolding fresh_set_answer
fresh_done n set range size = rw (fresh_set_answer, range, eq-eqb (length set) (packed_size n) size)

-- fresh marks, packed and marked: what is left holds a mark for each edge, and the text of the records is
-- that of its marks
module _ (n : ℕ) (table records : List ℕ) (v : Verdict) (left : List ℕ) {set : List ℕ} (is : result_of v left ≡ mark_packed n table set records) (fresh : set ≡ packed (fresh_marks n)) where
  marked_held : result_of v (marks_of n left) ≡ mark_sheet n table (fresh_marks n) records
  marked_held = mark_held struck_mark table records (fresh_byte_set n) v left (omega arith) (is ∙ ap (λ (l : List ℕ). mark_packed n table l records) fresh)

  pub marked_size : length (marks_of n left) ≡ edge_count n
  marked_size = ap length (sym (result_marks v (marks_of n left))) ∙ ap (λ (r : Result (List ℕ)). length r.marks) marked_held ∙ (mark_byte_set struck_mark n table records (omega arith) (fresh_byte_set n)).size

  pub marked_wrote : {r : ℕ} {out done : List ℕ} → Wrote out 0 (all_lines n (told v).0 (told v).1 (marks_of n left)) r done
      → Wrote out 0 (marked_text n (mark_sheet n table (fresh_marks n) records)) r done
  marked_wrote {r} {out} {done} w =
      subst (λ (x : List ℕ). Wrote out 0 x r done) (verdict_text n v (marks_of n left) ∙ ap (marked_text n) marked_held) w
