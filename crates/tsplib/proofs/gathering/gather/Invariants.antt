-- `tsplib::gathering::gather` meets its contract: `Gathering` holds at the loop's head. Assumes nothing.
use lib.ListN.{length}
use Rattle.tsplib.proofs.NumbersGathered.{Gathering}
use Rattle.tsplib.proofs.gathering.gather.Given as goal

abbrev pub invariant-loop-end : goal.invariant-loop-end
invariant-loop-end l = Gathering l.fn.text l.skip l.initial.out l.rest l.at l.out

abbrev pub decreases-loop-end : goal.decreases-loop-end
decreases-loop-end l = length l.rest
