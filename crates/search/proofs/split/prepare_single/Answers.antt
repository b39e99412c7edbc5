-- `search::split::prepare_single` meets its contract: the edge at hand is the only one of the set. Assumes nothing.
use Rattle.search.proofs.Preparing.{single_asked, single_split}
use Rattle.search.proofs.split.prepare_single.Goals as goal

pub legs_for_edge-requires : goal.legs_for_edge-requires
legs_for_edge-requires c = record { edge_legs_asked = single_asked c.requires.single_asked; legs_value = c.requires.legs_value }

pub bound_for_edge-requires : goal.bound_for_edge-requires
bound_for_edge-requires c = (single_asked c.requires.single_asked).asked

pub returns : goal.returns
returns c = single_split c.requires.single_asked c.legs_for_edge.ensures c.bound_for_edge.ensures
