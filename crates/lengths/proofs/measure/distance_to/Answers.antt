-- `lengths::measure::distance_to` meets its contract: the gaps are within the limit. Assumes nothing.
use mathlib.Core.Path.{◌∙◌, ap, ap₂}
use Rattle.lengths.specs.Distance.{gap_distance}
use Rattle.lengths.specs.Measure.{gap_of, x_of, y_of}
use Rattle.lengths.specs.asks.Measure.{distance_to}
use Rattle.lengths.proofs.Coordinates.{abs_diff_gap}
use Rattle.lengths.proofs.measure.distance_to.Goals as goal

pub returns : goal.returns
unfolding distance_to gap_of x_of y_of
returns c =
    c.gap_distance.ensures.at
    ∙ ap₂ (gap_distance _) (c.abs_diff-dx.ensures ∙ abs_diff_gap _ _ ∙ ap (gap_of _) c.number.ensures) (c.abs_diff-dy.ensures ∙ abs_diff_gap _ _ ∙ ap (gap_of _) c.number-2.ensures)
