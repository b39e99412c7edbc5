-- `sets::edge_set::EdgeSet::with_pair` meets its contract: the law `added` reads the two places that are stored to.
-- Assumes nothing.
use native.Mathlib.Omega.{arith}
use Rattle.sets.proofs.Laws.Stored.{added}
use Rattle.sets.proofs.edge_set.EdgeSet.with_pair.Goals as goal

pub returns : goal.returns
returns c = added c.args.self _ _ _ (omega arith) (omega arith) _
