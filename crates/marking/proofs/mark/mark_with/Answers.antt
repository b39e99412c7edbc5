-- `marking::mark::mark_with` meets its contract: each return is a way out of `mark_by`. Assumes nothing.
use mathlib.Core.Path.{sym, ◌∙◌}
use Rattle.lengths.proofs.Refusals.{told}
use Rattle.marking.proofs.MarkingSheets.{sheet_untested, sheet_admits, sheet_marked}
use Rattle.marking.proofs.mark.mark_with.Goals as goal

pub returns-in_err-passed : goal.returns-in_err-passed
returns-in_err-passed c =
    rw (told c.from_residual.ensures.1) (sheet_untested _ _ _ _ _ (sym c.test_sheet.ensures ∙ c.in_err-passed.was))

pub mark_admitted-requires : goal.mark_admitted-requires
mark_admitted-requires c = sheet_admits _ _ c.args.marks.now _ c.requires (sym c.test_sheet.ensures ∙ c.in_ok-passed.was)

pub returns : goal.returns
returns c = sheet_marked _ _ _ _ _ (sym c.test_sheet.ensures ∙ c.in_ok-passed.was) c.mark_admitted.result c.mark_admitted.new.marks c.requires c.mark_admitted.ensures
