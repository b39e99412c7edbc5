-- `search::split::bound_for_edge` meets its contract: the bound of no edge, with ab taken in. Assumes nothing.
use Rattle.search.proofs.Preparing.{edge_short, edge_bound}
use Rattle.search.proofs.split.bound_for_edge.Goals as goal

pub tighten-requires : goal.tighten-requires
tighten-requires c = edge_short c.requires c.edge_triangle-t.ensures

pub returns : goal.returns
returns c = edge_bound c.requires c.edge_triangle-t.ensures c.tighten.ensures
