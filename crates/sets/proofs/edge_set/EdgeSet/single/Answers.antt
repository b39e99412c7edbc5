-- `sets::edge_set::EdgeSet::single` meets its contract: the law `single` reads the two arrays of one value each.
-- Assumes nothing.
use Rattle.sets.proofs.Laws.Stored.{single}
use Rattle.sets.proofs.edge_set.EdgeSet.single.Goals as goal

pub returns : goal.returns
returns c = single c.args.a c.args.b _
