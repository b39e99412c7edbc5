-- `tsplib::state::weight_count` meets its contract: as many as edges. Assumes nothing.
use Rattle.lengths.specs.Edge.{edge_count}
use Rattle.tsplib.proofs.state.weight_count.Goals as goal

pub returns : goal.returns
unfolding edge_count
returns c = rw (c.saturating_sub.ensures, c.from-points.ensures)
