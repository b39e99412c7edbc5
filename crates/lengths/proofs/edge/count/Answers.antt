-- `lengths::edge::count` meets its contract: the code is the definition. Assumes nothing.
use Rattle.lengths.specs.Edge.{edge_count}
use Rattle.lengths.proofs.edge.count.Goals as goal

pub returns : goal.returns
unfolding edge_count
returns c = rw c.saturating_sub.ensures
