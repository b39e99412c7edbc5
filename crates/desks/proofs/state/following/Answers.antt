-- `desks::state::following` meets its contract: it is the definition. Assumes nothing.
use mathlib.Core.Path.{refl}
use Rattle.desks.specs.State.{following}
use Rattle.desks.proofs.state.following.Goals as goal

pub returns : goal.returns
unfolding following
returns c = refl
