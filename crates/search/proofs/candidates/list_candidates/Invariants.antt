-- `search::candidates::list_candidates` meets its contract: the loop's invariant is `Ranked`, of the two lists with
-- what the next step writes to them. Assumes nothing.
use lib.ListN.{set}
use Rattle.search.proofs.Ranks.{Ranked}
use Rattle.search.proofs.candidates.list_candidates.Given as goal

abbrev pub invariant-loop-x : goal.invariant-loop-x
invariant-loop-x l = Ranked l.n l.legs (set l.candidates l.count l.x) (set l.rank l.x l.count) l.count l.x
