-- `lengths::distance::rooted` meets its contract: the squares fit, since the gaps are within the limit.
-- Assumes nothing.
use mathlib.Core.Path.{◌∙◌}
use Rattle.lengths.specs.Distance.{squares}
use Rattle.lengths.specs.asks.Distance.{rounded_by}
use Rattle.lengths.proofs.Coordinates.{squares_small}
use Rattle.lengths.proofs.Distances.{att_tenth}
use Rattle.lengths.proofs.distance.rooted.Goals as goal

pub returns-in-Euc2d : goal.returns-in-Euc2d
unfolding squares rounded_by
returns-in-Euc2d c = rw c.in-Euc2d.is c.rounded.ensures

pub returns-in-Ceil2d : goal.returns-in-Ceil2d
unfolding squares rounded_by
returns-in-Ceil2d c = rw c.in-Ceil2d.is c.rounded-in-Ceil2d.ensures

pub returns-in-Att : goal.returns-in-Att
unfolding squares rounded_by
returns-in-Att c = rw c.in-Att.is (record { at = c.rounded-in-Att.ensures.at ∙ att_tenth _ (squares_small c.requires.0 c.requires.1); bits = c.rounded-in-Att.ensures.bits })
