-- `search::pairs::Search::next_pair` meets its contract: the loop's invariant is `Walking`, the measure the rows left.
-- Assumes nothing.
use Prim.Native.Nat.{◌-◌}
use Rattle.search.proofs.PairSearch.{Walking}
use Rattle.search.proofs.pairs.Search.next_pair.Given as goal

abbrev pub invariant-loop-a : goal.invariant-loop-a
invariant-loop-a l = Walking l.self l.x l.y l.a l.b

abbrev pub decreases-loop-a : goal.decreases-loop-a
decreases-loop-a l = l.self.n - l.a
