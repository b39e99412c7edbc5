-- `marks::packed::well_packed` meets its contract: each way out has its lemma in `PackedTests`. Assumes nothing.
use mathlib.Core.Path.{sym, ◌∙◌}
use borrow.Author.Tests.{eqb-true}
use Rattle.marks.proofs.PackedTests.{wrong_size, wrong_mark, unused_left}
use Rattle.marks.proofs.packed.well_packed.Goals as goal
use Rattle.marks.proofs.packed.well_packed.Goals.{then-set-size, else-set-size}

pub returns-then-marks_within : goal.returns-then-marks_within
returns-then-marks_within c = elim c.if-set-size.branch [
  | then-set-size w ↦
      unused_left _ _ (w.if-set-size.true ∙ c.size.ensures) w.marks_within.ensures (sym w.value-is ∙ c.if-marks_within.true) c.unused_clear.ensures
  | else-set-size w ↦ absurd (w.if-set-size.false (eqb-true _ _ (sym w.value-is ∙ c.if-marks_within.true)))
]

pub returns-else-marks_within : goal.returns-else-marks_within
returns-else-marks_within c = elim c.if-set-size.branch [
  | then-set-size w ↦
      c.if-marks_within.false ∙ wrong_mark _ _ (w.if-set-size.true ∙ c.size.ensures) w.marks_within.ensures (sym w.value-is ∙ c.if-marks_within.false)
  | else-set-size w ↦ c.if-marks_within.false ∙ wrong_size _ _ (λ e. w.if-set-size.false (e ∙ sym c.size.ensures))
]
