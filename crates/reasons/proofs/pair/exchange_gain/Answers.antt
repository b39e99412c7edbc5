-- `reasons::pair::exchange_gain` meets its contract: the saving has few bits. Assumes nothing.
use mathlib.Core.Path.{◌∙◌}
use Rattle.reasons.proofs.PairWays.{exchange_small, held_small, held_gained}
use Rattle.reasons.proofs.pair.exchange_gain.Goals as goal

pub gain-requires : goal.gain-requires
gain-requires c = held_small c.exchange_saving.type_inv c.exchange_saving.ensures (exchange_small c.requires)

pub returns : goal.returns
returns c = c.gain.ensures ∙ held_gained c.exchange_saving.type_inv c.exchange_saving.ensures
