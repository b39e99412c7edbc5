-- `pages::writing::put_lines` meets its contract: `Putting` holds at the loop's head, over the marks that the packed
-- set holds. Assumes nothing.
use Rattle.endian.specs.Bytes.{whole32}
use Rattle.marks.specs.Packed.{marks_of}
use Rattle.pages.proofs.PageLines.{Putting}
use Rattle.pages.proofs.writing.put_lines.Given as goal

abbrev pub invariant-loop-i : goal.invariant-loop-i
invariant-loop-i l = Putting l.n (whole32 l.table) (marks_of l.n l.marks) l.first l.lines l.initial.text l.text l.edge.low l.edge.high l.at l.i
