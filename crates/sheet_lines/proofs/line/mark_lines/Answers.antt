-- `sheet_lines::line::mark_lines` meets its contract: the loop's invariant is `Proceeding`, and its measure the records
-- left above the highest entered. Assumes nothing.
use mathlib.Core.Path.{refl, ◌∙◌, ap}
use native.Mathlib.Omega.{arith}
use Rattle.std.specs.Prelude.{Ok}
use Rattle.sheet_lines.proofs.Lining.{lines_start, lines_accepted, lines_refused, lines_few, lines_fall, lines_on}
use Rattle.sheet_lines.proofs.line.mark_lines.Goals as goal

pub loop-strike-init : goal.loop-strike-init
loop-strike-init c = (lines_start c.requires.tried, refl)

pub returns-in-Ok-None : goal.returns-in-Ok-None
returns-in-Ok-None c = lines_accepted c.loop-strike.invariant.0 c.mark_line.ensures (c.in-Ok-None.is ∙ ap Ok c.in-Ok-None.field-0-is)

pub returns-in-Err : goal.returns-in-Err
returns-in-Err c = lines_refused c.loop-strike.invariant.0 c.mark_line.ensures c.in-Err.is

pub overflow_add-lines : goal.overflow_add-lines
overflow_add-lines c = omega (arith, lines_few c.loop-strike.invariant.0 c.mark_line.ensures (c.in-Ok-Some.is ∙ ap Ok c.in-Ok-Some.field-0-is))

pub loop-strike-smaller : goal.loop-strike-smaller
loop-strike-smaller c = lines_fall c.loop-strike.invariant.0 c.mark_line.ensures (c.in-Ok-Some.is ∙ ap Ok c.in-Ok-Some.field-0-is)

pub loop-strike-preserved : goal.loop-strike-preserved
loop-strike-preserved c =
    (lines_on c.loop-strike.invariant.0 c.mark_line.ensures (c.in-Ok-Some.is ∙ ap Ok c.in-Ok-Some.field-0-is), c.mark_line.auto.marks ∙ c.loop-strike.invariant.1)
