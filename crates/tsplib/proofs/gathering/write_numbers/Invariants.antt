-- `tsplib::gathering::write_numbers` meets its contract: `Writing` holds at the loop's head. Assumes nothing.
use Rattle.tsplib.proofs.NumbersGathered.{Writing}
use Rattle.tsplib.proofs.gathering.write_numbers.Given as goal

abbrev pub invariant-loop-b : goal.invariant-loop-b
invariant-loop-b l = Writing l.text l.skip l.initial.out l.at l.begun l.spot l.b-index l.out
