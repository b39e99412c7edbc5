-- `sets::edge_set::EdgeSet::has` meets its contract. The invariant: whether ab is among the first i edges decides
-- whether it is among all. Assumes nothing.
use mathlib.Core.Path.{◌≡◌}
use Rattle.sets.specs.Joined.{has?}
use Rattle.sets.specs.asks.Stored.{edges_of, edge_list}
use Rattle.sets.proofs.edge_set.EdgeSet.has.Given as goal

abbrev pub invariant-loop-i : goal.invariant-loop-i
invariant-loop-i l = has? (edges_of l.self.from l.self.to l.i) l.a l.b ≡ has? (edge_list l.self) l.a l.b
