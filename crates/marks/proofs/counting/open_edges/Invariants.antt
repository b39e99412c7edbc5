-- `marks::counting::open_edges` meets its contract: `Counting` holds at the loop's head. Assumes nothing.
use Rattle.marks.specs.Packed.{marks_of}
use Rattle.marks.proofs.OpenCounts.{Counting}
use Rattle.marks.proofs.counting.open_edges.Given as goal

abbrev pub invariant-loop-i : goal.invariant-loop-i
invariant-loop-i l = Counting (marks_of l.n l.set) l.opens l.i
