-- `rules::saving::exchange_saving` meets its contract: the sum of two less the larger of two sums. Assumes nothing.
use mathlib.Core.Path.{◌∙◌}
use Rattle.lengths.proofs.SignedSavings.{kept}
use Rattle.rules.proofs.Savings.{exchange_made}
use Rattle.rules.proofs.saving.exchange_saving.Goals as goal

pub returns : goal.returns
returns c =
    kept c.saving.type_inv ∙ exchange_made _ _ _ _ _ _ c.length_of_two-straight.ensures.at c.length_of_two-crossed.ensures.at
    c.length_of_two.ensures.at c.max.ensures c.saving.ensures
