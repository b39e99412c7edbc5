-- `search::split::legs_for_edge` meets its contract: the legs where K is empty, with ab taken in. Assumes nothing.
use Rattle.rules.proofs.LegLoops.{open_start}
use Rattle.search.proofs.Preparing.{edge_open, edge_narrow, edge_legs}
use Rattle.search.proofs.split.legs_for_edge.Goals as goal

pub open_legs-requires : goal.open_legs-requires
open_legs-requires c = open_start c.requires.legs_value (edge_open c.requires.edge_legs_asked c.fill_edge_rows.ensures)

pub narrow-requires : goal.narrow-requires
narrow-requires c = edge_narrow c.requires.edge_legs_asked c.fill_edge_rows.ensures c.edge_triangle-t.ensures c.open_legs.ensures

pub returns : goal.returns
returns c = edge_legs c.requires.edge_legs_asked c.fill_edge_rows.ensures c.edge_triangle-t.ensures c.open_legs.ensures c.narrow.ensures
