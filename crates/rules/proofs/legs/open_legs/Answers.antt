-- `rules::legs::open_legs` meets its contract: the points below c, then those above it. Assumes nothing.
use Rattle.rules.proofs.LegLoops.{open_middle}
use Rattle.rules.proofs.legs.open_legs.Goals as goal

pub open_above-requires : goal.open_above-requires
open_above-requires c = open_middle c.requires.asked c.open_below.ensures
