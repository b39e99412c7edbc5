-- `reasons::telling::tell_line` meets its contract: each way out has its lemma in `TellAnswers`. Assumes nothing.
use mathlib.Core.Path.{◌∙◌, ap}
use Rattle.lengths.proofs.Refusals.{told}
use Rattle.sheets.specs.asks.Sheet.{sheet_admission}
use Rattle.reasons.proofs.TellAnswers.{line_untested, line_not_whole, line_admitted, line_told}
use Rattle.reasons.proofs.telling.tell_line.Goals as goal

pub returns-in_err-points : goal.returns-in_err-points
returns-in_err-points c =
    rw (told c.from_residual.ensures.1) (line_untested _ _ _ _ c.test_instance.ensures _ c.in_err-points.was)

pub returns-in_err-admitted : goal.returns-in_err-admitted
returns-in_err-admitted c =
    rw (told c.from_residual-in_err-admitted.ensures.1)
    (line_not_whole _ _ _ _ c.test_instance.ensures c.in_ok-points.was (c.admit.ensures ∙ ap sheet_admission c.count_of.ensures) _ c.in_err-admitted.was)

pub tell_record-requires : goal.tell_record-requires
tell_record-requires c =
    line_admitted _ _ c.args.marks.now _ c.test_instance.ensures c.in_ok-points.was
    (c.admit.ensures ∙ ap sheet_admission c.count_of.ensures) c.in_ok-admitted.was

pub returns : goal.returns
returns c =
    line_told _ _ _ _ c.test_instance.ensures c.in_ok-points.was (c.admit.ensures ∙ ap sheet_admission c.count_of.ensures)
    c.in_ok-admitted.was _ c.tell_record.ensures
