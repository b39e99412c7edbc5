-- `admission::tested::test_marks` meets its contract: each way out has its lemma in `TestWays`. Assumes nothing.
use mathlib.Core.Path.{sym, ◌∙◌}
use Rattle.admission.proofs.TestWays.{marks_refused, marks_passed}
use Rattle.admission.proofs.tested.test_marks.Goals as goal

pub returns-then-not-well_packed : goal.returns-then-not-well_packed
returns-then-not-well_packed c = marks_refused _ _ c.requires (sym c.well_packed.ensures ∙ c.if-not-well_packed.true)

pub returns : goal.returns
returns c = marks_passed _ _ (sym c.well_packed.ensures ∙ c.if-not-well_packed.false)
