-- `reasons::pair::move_outcome` meets its contract: each return is a way out of `move_outcome`. Assumes nothing.
use mathlib.Core.Path.{sym, ◌∙◌}
use Rattle.reasons.proofs.PairWays.{move_small, held_small, held_gained, move_end, move_none, move_some}
use Rattle.reasons.proofs.pair.move_outcome.Goals as goal

pub returns-then-is_end : goal.returns-then-is_end
returns-then-is_end c = move_end _ _ _ _ _ _ (sym c.is_end.ensures ∙ c.if-is_end.true)

pub gain-requires : goal.gain-requires
gain-requires c = held_small c.move_saving.type_inv c.move_saving.ensures (move_small c.requires)

pub returns-in_err-saved : goal.returns-in_err-saved
returns-in_err-saved c =
    rw c.from_residual.ensures
    (move_none _ _ _ _ _ _ (sym c.is_end.ensures ∙ c.if-is_end.false)
    (sym (c.gain.ensures ∙ held_gained c.move_saving.type_inv c.move_saving.ensures) ∙ c.in_err-saved.was))

pub returns : goal.returns
returns c =
    move_some _ _ _ _ _ _ (sym c.is_end.ensures ∙ c.if-is_end.false)
    (sym (c.gain.ensures ∙ held_gained c.move_saving.type_inv c.move_saving.ensures) ∙ c.in_ok-saved.was) c.move_of.ensures
