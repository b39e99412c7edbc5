-- `report::lines::put_strikes` meets its contract: `Striking` holds at the loop's head, over the marks that the packed
-- set holds. Assumes nothing.
use Rattle.marks.specs.Packed.{marks_of}
use Rattle.report.proofs.Striking.{Striking}
use Rattle.report.proofs.lines.put_strikes.Given as goal

abbrev pub invariant-loop-i : goal.invariant-loop-i
invariant-loop-i l = Striking l.n (marks_of l.n l.marks) l.initial.out l.at l.out l.edge.low l.edge.high l.i l.next
