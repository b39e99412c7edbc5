-- `or_opt::degree_two::take_in_points` meets its contract: the invariant is `TakingIn`, that the first i edges are
-- taken in. Assumes nothing.
use Rattle.or_opt.proofs.PointLegs.{TakingIn}
use Rattle.or_opt.proofs.degree_two.take_in_points.Given as goal

abbrev pub invariant-loop-i : goal.invariant-loop-i
invariant-loop-i l = TakingIn l.rows l.k l.c l.initial.legs l.legs l.i
