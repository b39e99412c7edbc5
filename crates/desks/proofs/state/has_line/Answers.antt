-- `desks::state::has_line` meets its contract: the lines are compared with the next index. Assumes nothing.
use mathlib.Core.Path.{ap₂}
use lib.Dec.{ltb}
use Rattle.desks.specs.State.{has_line}
use Rattle.desks.proofs.state.has_line.Goals as goal

pub returns : goal.returns
unfolding has_line
returns c = ap₂ ltb c.number_at.ensures c.number_at-2.ensures
