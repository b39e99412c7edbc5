-- `reasons::pair::gain` meets its contract: what is above 0 is its own gain. Assumes nothing.
use Rattle.reasons.proofs.PairWays.{cast_fits, cast_gained, not_gained}
use Rattle.reasons.proofs.pair.gain.Goals as goal

pub overflow_cast-result : goal.overflow_cast-result
overflow_cast-result c = cast_fits c.args.saving c.ranges.saving.sfits c.if-saving-gt0.true c.requires

pub returns-then-saving-gt0 : goal.returns-then-saving-gt0
returns-then-saving-gt0 c = cast_gained c.args.saving c.ranges.saving.sfits c.if-saving-gt0.true

pub returns-else-saving-gt0 : goal.returns-else-saving-gt0
returns-else-saving-gt0 c = not_gained c.args.saving c.ranges.saving.sfits c.if-saving-gt0.false
