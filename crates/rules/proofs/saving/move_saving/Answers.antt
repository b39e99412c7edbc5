-- `rules::saving::move_saving` meets its contract: old less new. Assumes nothing.
use mathlib.Core.Path.{◌∙◌}
use Rattle.lengths.proofs.SignedSavings.{kept}
use Rattle.rules.proofs.Savings.{move_made}
use Rattle.rules.proofs.saving.move_saving.Goals as goal

pub returns : goal.returns
returns c =
    kept c.saving.type_inv ∙ move_made _ _ _ _ _ _ _ c.length_of_three.ensures.at c.length_of_three-2.ensures.at c.saving.ensures
