-- `reasons::pair::saving_outcome` meets its contract: each return is a way out of `saving_outcome`. Assumes nothing.
use mathlib.Core.Path.{sym, ◌∙◌}
use Rattle.reasons.proofs.PairWays.{exchange_first, exchange_second, exchange_none}
use Rattle.reasons.proofs.pair.saving_outcome.Goals as goal

pub returns-in-Some : goal.returns-in-Some
returns-in-Some c = exchange_first _ _ _ _ _ _ (sym c.exchange_gain.ensures ∙ c.in-Some.is) c.exchange_of.ensures

pub returns-in-Some-exchange_gain : goal.returns-in-Some-exchange_gain
returns-in-Some-exchange_gain c =
    exchange_second _ _ _ _ _ _ (sym c.exchange_gain.ensures ∙ c.in_default.is) (sym c.exchange_gain-2.ensures ∙ c.in-Some-exchange_gain.is)
    c.exchange_of-in-Some-exchange_gain.ensures

pub returns : goal.returns
returns c =
    exchange_none _ _ _ _ _ _ (sym c.exchange_gain.ensures ∙ c.in_default.is)
    (sym c.exchange_gain-2.ensures ∙ c.in_default-exchange_gain.is) c.move_outcome.ensures
