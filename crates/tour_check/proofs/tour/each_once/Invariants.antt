-- `tour_check::tour::each_once` meets its contract: `Seeing` holds at the loop's head, and each way out has its lemma
-- in `TourSeen`. Assumes nothing.
use Rattle.endian.specs.Bytes.{whole16}
use Rattle.tour_check.proofs.TourSeen.{Seeing}
use Rattle.tour_check.proofs.tour.each_once.Given as goal

abbrev pub invariant-loop-i : goal.invariant-loop-i
invariant-loop-i l = Seeing l.n (whole16 l.tour) l.seen l.i
