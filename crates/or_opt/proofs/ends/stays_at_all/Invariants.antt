-- `or_opt::ends::stays_at_all` meets its contract: the invariant is `Staying`, that w stays where the first i edges
-- are. Assumes nothing.
use Rattle.or_opt.proofs.EndMoves.{Staying}
use Rattle.or_opt.proofs.ends.stays_at_all.Given as goal

abbrev pub invariant-loop-i : goal.invariant-loop-i
invariant-loop-i l = Staying l.rows l.k l.w l.taken l.given l.i
