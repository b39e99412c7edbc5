-- `sheet_lines::line::mark_line` meets its contract: each return is a way out of `line_step`, and only the one that
-- strikes changes a mark. Assumes nothing.
use mathlib.Core.Path.{sym, ◌∙◌}
use Rattle.lengths.proofs.Refusals.{told}
use Rattle.sheets.proofs.Records.{index_entered}
use Rattle.sheet_lines.proofs.Lining.{mark_over, mark_untested, mark_marked, mark_strikes, mark_stops, line_asked}
use Rattle.sheet_lines.proofs.line.mark_line.Goals as goal

pub returns-then-index-eq0 : goal.returns-then-index-eq0
returns-then-index-eq0 c = mark_over _ _ _ _ _ _ _ _ _ c.if-index-eq0.true

pub returns-in_err-test_index : goal.returns-in_err-test_index
returns-in_err-test_index c =
    rw (told c.from_residual.ensures.1) (mark_untested _ _ _ _ _ _ _ _ _ c.requires.tried.admitted.whole c.if-index-eq0.false (sym c.test_index.ensures ∙ c.in_err-test_index.was))

pub judge-requires : goal.judge-requires
judge-requires c =
    line_asked c.requires (index_entered c.requires.tried.admitted.whole _ _ _ (sym c.test_index.ensures ∙ c.in_ok-test_index.was))

pub returns-in_err-strike : goal.returns-in_err-strike
returns-in_err-strike c =
    rw (told c.from_residual-in_err-strike.ensures.1)
    (mark_stops _ _ _ _ _ _ _ _ _ (index_entered c.requires.tried.admitted.whole _ _ _ (sym c.test_index.ensures ∙ c.in_ok-test_index.was)) c.judge.ensures c.in_err-strike.was)

pub set_mark-requires : goal.set_mark-requires
set_mark-requires c = mark_marked c.requires _ c.judge.ensures c.in_ok-strike.was

pub returns : goal.returns
returns c =
    mark_strikes _ _ _ _ _ _ _ _ _ (index_entered c.requires.tried.admitted.whole _ _ _ (sym c.test_index.ensures ∙ c.in_ok-test_index.was)) c.judge.ensures c.in_ok-strike.was c.set_mark.ensures
