-- `sheet_lines::line::mark_lines` meets its contract: the loop's invariant is `Proceeding`, and its measure the records
-- left above the highest entered. Assumes nothing.
use Prim.Native.Nat.{◌-◌}
use mathlib.Core.Path.{◌≡◌}
use Rattle.endian.specs.Bytes.{whole16, whole32}
use lib.ListN.{length}
use Rattle.argument.specs.Record.{records}
use Rattle.marks.specs.Packed.{marks_of}
use Rattle.sheet_lines.proofs.Lining.{Proceeding}
use Rattle.sheet_lines.proofs.line.mark_lines.Given as goal

abbrev pub invariant-loop-strike : goal.invariant-loop-strike
invariant-loop-strike l =
    Proceeding l.mark l.board.tables.n (whole32 l.board.tables.out.now) (whole32 l.board.tables.put.now) l.board.rows.out.now l.board.rows.put.now (marks_of l.board.tables.n l.initial.marks) (whole16 l.board.sheet.now) l.board.count (marks_of l.board.tables.n l.marks) l.lines l.last l.index l.high × (length l.marks ≡ length l.initial.marks)

abbrev pub decreases-loop-strike : goal.decreases-loop-strike
decreases-loop-strike l = records (whole16 l.board.sheet.now) - l.high
