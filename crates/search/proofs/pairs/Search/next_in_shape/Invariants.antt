-- `search::pairs::Search::next_in_shape` meets its contract: the loop's invariant is `Trying`, the measure the points left.
-- Assumes nothing.
use Prim.Native.Nat.{◌-◌}
use Rattle.search.proofs.RowShapes.{Trying}
use Rattle.search.proofs.pairs.Search.next_in_shape.Given as goal

abbrev pub invariant-loop-ahead : goal.invariant-loop-ahead
invariant-loop-ahead l = Trying l.self l.x l.y l.ahead l.z

abbrev pub decreases-loop-ahead : goal.decreases-loop-ahead
decreases-loop-ahead l = l.self.n - l.z
