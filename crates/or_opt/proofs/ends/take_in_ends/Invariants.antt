-- `or_opt::ends::take_in_ends` meets its contract: the invariant is `Ending`, that the points of the first i edges are
-- taken in. Assumes nothing.
use Rattle.or_opt.proofs.EndMoves.{Ending}
use Rattle.or_opt.proofs.ends.take_in_ends.Given as goal

abbrev pub invariant-loop-i : goal.invariant-loop-i
invariant-loop-i l = Ending l.rows l.k l.c l.initial.legs l.legs l.i
