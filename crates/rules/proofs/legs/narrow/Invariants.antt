-- `rules::legs::narrow` meets its contract: the invariant is `Narrowing`, that the legs below x have taken in the edge
-- and the others are as they were. Assumes nothing.
use Rattle.rules.proofs.LegLoops.{Narrowing}
use Rattle.rules.proofs.legs.narrow.Given as goal

abbrev pub invariant-loop-x : goal.invariant-loop-x
invariant-loop-x l = Narrowing l.n l.rows l.initial.legs l.ps l.qs l.pq l.cp l.cq l.legs l.x
