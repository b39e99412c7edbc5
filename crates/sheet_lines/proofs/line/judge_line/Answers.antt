-- `sheet_lines::line::judge_line` meets its contract: each return is a way out of `judge_record` at a line.
-- Assumes nothing.
use mathlib.Core.Path.{sym, ◌∙◌}
use borrow.Author.Tests.{not-true, not-false}
use Rattle.lengths.proofs.Refusals.{told}
use Rattle.lengths.specs.Refusal.{refusal_number}
use Rattle.sheet_lines.proofs.Lining.{line_misfit, line_struck, line_strikes, line_stops, line_marked, line_chain}
use Rattle.sheet_lines.proofs.line.judge_line.Goals as goal

pub returns-then-not-points_fit : goal.returns-then-not-points_fit
unfolding refusal_number
returns-then-not-points_fit c = rw c.at.ensures (line_misfit _ _ _ _ _ _ _ _ _ (sym c.points_fit.ensures ∙ not-true _ c.if-not-points_fit.true-raw))

pub is_open-requires : goal.is_open-requires
is_open-requires c = line_marked c.requires _ _ _ _ (sym c.points_fit.ensures ∙ not-false _ c.if-not-points_fit.false-raw)

pub returns-then-not-is_open : goal.returns-then-not-is_open
unfolding refusal_number
returns-then-not-is_open c =
    rw c.at-then-not-is_open.ensures
    (line_struck _ _ _ _ _ _ _ _ _ (sym c.points_fit.ensures ∙ not-false _ c.if-not-points_fit.false-raw) (sym c.is_open.ensures ∙ not-true _ c.if-not-is_open.true-raw))

pub chain-requires : goal.chain-requires
chain-requires c = line_chain c.requires _ _ _ _ (sym c.points_fit.ensures ∙ not-false _ c.if-not-points_fit.false-raw) c.single-k.ensures

pub returns-in_err-high : goal.returns-in_err-high
returns-in_err-high c =
    rw (told c.from_residual.ensures.1)
    (line_stops _ _ _ _ _ _ _ _ _ (sym c.points_fit.ensures ∙ not-false _ c.if-not-points_fit.false-raw) (sym c.is_open.ensures ∙ not-false _ c.if-not-is_open.false-raw) c.single-k.ensures c.chain.ensures c.in_err-high.was)

pub returns : goal.returns
returns c =
    line_strikes _ _ _ _ _ _ _ _ _ (sym c.points_fit.ensures ∙ not-false _ c.if-not-points_fit.false-raw) (sym c.is_open.ensures ∙ not-false _ c.if-not-is_open.false-raw) c.single-k.ensures c.chain.ensures c.in_ok-high.was
