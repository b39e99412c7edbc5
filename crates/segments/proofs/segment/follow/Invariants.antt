-- `segments::segment::follow` meets its contract. The invariant: what is found from `at` on, with the points passed, is
-- what is found over a. Assumes nothing.
use Rattle.segments.proofs.Following.{Followed}
use Rattle.segments.proofs.segment.follow.Given as goal

abbrev pub invariant-loop : goal.invariant-loop
invariant-loop l = Followed l.k l.u l.a l.v l.order l.from l.at l.counter
