-- `reasons::pair::move_of` meets its contract: each return is a way out of `moved`. Assumes nothing.
use mathlib.Core.Path.{sym, ◌∙◌}
use Rattle.reasons.proofs.PairWays.{move_low, move_high, move_point}
use Rattle.reasons.proofs.pair.move_of.Goals as goal

pub returns-then-is_low_end : goal.returns-then-is_low_end
returns-then-is_low_end c = move_low _ _ _ _ _ _ (sym c.is_low_end.ensures ∙ c.if-is_low_end.true) c.move_to.ensures

pub returns-then-is_low_end-2 : goal.returns-then-is_low_end-2
returns-then-is_low_end-2 c =
    move_high _ _ _ _ _ _ (sym c.is_low_end.ensures ∙ c.if-is_low_end.false)
    (sym c.is_low_end-2.ensures ∙ c.if-is_low_end-2.true) c.move_to-then-is_low_end-2.ensures

pub returns : goal.returns
returns c =
    move_point _ _ _ _ _ _ (sym c.is_low_end.ensures ∙ c.if-is_low_end.false)
    (sym c.is_low_end-2.ensures ∙ c.if-is_low_end-2.false) c.move_to-2.ensures
