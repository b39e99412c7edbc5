-- `or_opt::degree_two::take_in_with` meets its contract: the invariant is `Pairing`, that edge i is taken in with the
-- first j edges. Assumes nothing.
use Rattle.or_opt.proofs.PointLegs.{Pairing}
use Rattle.or_opt.proofs.degree_two.take_in_with.Given as goal

abbrev pub invariant-loop-j : goal.invariant-loop-j
invariant-loop-j l = Pairing l.rows l.k.from l.k.to l.c l.i l.initial.legs l.legs l.j
