-- `tour_check::tour::all_open` meets its contract: `CheckingOpen` holds at the loop's head. Assumes nothing.
use Rattle.endian.specs.Bytes.{whole16}
use Rattle.marks.specs.Packed.{marks_of}
use Rattle.tour_check.proofs.TourLoops.{CheckingOpen}
use Rattle.tour_check.proofs.tour.all_open.Given as goal

abbrev pub invariant-loop-i : goal.invariant-loop-i
invariant-loop-i l = CheckingOpen l.n (marks_of l.n l.marks) (whole16 l.tour) l.from l.i
