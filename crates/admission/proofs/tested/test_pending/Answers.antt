-- `admission::tested::test_pending` meets its contract: what the set holds beside its marks is 0. Assumes nothing.
use mathlib.Core.Path.{sym, ◌∙◌}
use Rattle.marks.specs.Mark.{open_mark}
use Rattle.marks.proofs.Resolving.{within_held}
use Rattle.admission.proofs.tested.test_pending.Goals as goal

pub returns-then-not-marks_within : goal.returns-then-not-marks_within
returns-then-not-marks_within c = rw (sym (within_held _ _ c.requires open_mark) ∙ sym c.marks_within.ensures.tested ∙ c.if-not-marks_within.true)

pub returns : goal.returns
returns c = rw (sym (within_held _ _ c.requires open_mark) ∙ sym c.marks_within.ensures.tested ∙ c.if-not-marks_within.false)
