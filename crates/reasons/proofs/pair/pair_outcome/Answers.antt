-- `reasons::pair::pair_outcome` meets its contract: each return is a way out of `pair_outcome`. Assumes nothing.
use mathlib.Core.Bool.{Bool, false, ◌&&◌}
use mathlib.Core.Path.{◌≡◌, sym, ◌∙◌, ap}
use borrow.Author.Tests.{not-true, not-false}
use Rattle.lists.proofs.Bools.{and_both, and_no, and_stop}
use Rattle.reasons.specs.PairReason.{end?}
use Rattle.reasons.proofs.PairWays.{struck_first, struck_second, third_told, loop_told, savings_told}
use Rattle.reasons.proofs.pair.pair_outcome.Goals.{else-is_end-via-then-is_end+else-is_end-2, else-is_end-via-else-is_end}
use Rattle.reasons.proofs.pair.pair_outcome.Goals as goal

pub returns-then-not-is_open : goal.returns-then-not-is_open
returns-then-not-is_open c =
    struck_first _ _ _ _ _ _ _ (sym c.is_open.ensures ∙ not-true _ c.if-not-is_open.true-raw) c.struck_leg.ensures

pub returns-then-not-is_open-2 : goal.returns-then-not-is_open-2
returns-then-not-is_open-2 c =
    struck_second _ _ _ _ _ _ _ (sym c.is_open.ensures ∙ not-false _ c.if-not-is_open.false-raw)
    (sym c.is_open-2.ensures ∙ not-true _ c.if-not-is_open-2.true-raw) c.struck_leg-then-not-is_open-2.ensures

pub returns-then-has_third : goal.returns-then-has_third
returns-then-has_third c =
    third_told _ _ _ _ _ _ _ (sym c.is_open.ensures ∙ not-false _ c.if-not-is_open.false-raw)
    (sym c.is_open-2.ensures ∙ not-false _ c.if-not-is_open-2.false-raw) (sym c.has_third.ensures ∙ c.if-has_third.true)

pub returns-then-is_end-2 : goal.returns-then-is_end-2
returns-then-is_end-2 c =
    loop_told _ _ _ _ _ _ _ (sym c.is_open.ensures ∙ not-false _ c.if-not-is_open.false-raw)
    (sym c.is_open-2.ensures ∙ not-false _ c.if-not-is_open-2.false-raw) (sym c.has_third.ensures ∙ c.if-has_third.false)
    (and_both _ _ (sym c.is_end.ensures ∙ c.if-is_end.true) (sym c.is_end-then-is_end.ensures ∙ c.if-is_end-2.true)) c.loop_of.ensures

pub returns : goal.returns
returns c =
    let both : (end? c.args.a c.args.b c.args.x && end? c.args.a c.args.b c.args.y) ≡ false = elim c.else-is_end.branch [
      | else-is_end-via-then-is_end+else-is_end-2 w ↦
          ap (λ (t : Bool). end? c.args.a c.args.b c.args.x && t) (sym w.is_end-then-is_end.ensures ∙ w.if-is_end-2.false) ∙ and_no _
      | else-is_end-via-else-is_end w ↦ sym (and_stop _ (sym c.is_end.ensures ∙ w.if-is_end.false))
    ] in
    savings_told _ _ _ _ _ _ _ (sym c.is_open.ensures ∙ not-false _ c.if-not-is_open.false-raw)
    (sym c.is_open-2.ensures ∙ not-false _ c.if-not-is_open-2.false-raw) (sym c.has_third.ensures ∙ c.if-has_third.false)
    both c.saving_outcome.ensures
