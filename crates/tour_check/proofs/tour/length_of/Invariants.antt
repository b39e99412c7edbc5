-- `tour_check::tour::length_of` meets its contract: `Summing` holds at the loop's head. Assumes nothing.
use Rattle.endian.specs.Bytes.{whole16, whole32}
use Rattle.tour_check.proofs.TourLoops.{Summing}
use Rattle.tour_check.proofs.tour.length_of.Given as goal

abbrev pub invariant-loop-i : goal.invariant-loop-i
invariant-loop-i l = Summing l.n (whole32 l.table) (whole16 l.tour) l.sum l.from l.i
