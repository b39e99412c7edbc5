-- `marking::mark_between::mark_between` meets its contract: each way out has its lemma in `BetweenSheets`. Assumes
-- nothing.
use mathlib.Core.Path.{sym, ◌∙◌}
use Rattle.lengths.proofs.Refusals.{told}
use Rattle.marking.proofs.BetweenSheets.{between_untested, between_admits, between_lines}
use Rattle.marking.proofs.mark_between.mark_between.Goals as goal

pub returns-in_err-passed : goal.returns-in_err-passed
returns-in_err-passed c =
    rw (told c.from_residual.ensures.1) (between_untested _ _ _ _ _ (sym c.test_between_sheet.ensures ∙ c.in_err-passed.was))

pub mark_admitted-requires : goal.mark_admitted-requires
mark_admitted-requires c = between_admits _ _ _ c.args.marks.now _ (sym c.test_between_sheet.ensures ∙ c.in_ok-passed.was)

pub returns : goal.returns
returns c = between_lines _ _ _ _ _ (sym c.test_between_sheet.ensures ∙ c.in_ok-passed.was) c.mark_admitted.result c.mark_admitted.new.marks c.mark_admitted.ensures
