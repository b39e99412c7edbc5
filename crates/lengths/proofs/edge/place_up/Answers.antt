-- `lengths::edge::place_up` meets its contract: `placeUp-formula` is the formula of the code. Assumes nothing.
use Rattle.lengths.proofs.Edges.{place_up_formula}
use Rattle.lengths.proofs.edge.place_up.Goals as goal

pub returns : goal.returns
returns c = place_up_formula c.requires
