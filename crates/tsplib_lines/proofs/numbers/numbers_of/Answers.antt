-- `tsplib_lines::numbers::numbers_of` meets its contract: `Sweeping` holds at the loop's head. Assumes nothing.
use mathlib.Core.Path.{sym, ◌∙◌}
use Rattle.tsplib_lines.proofs.NumberSweep.{sweep_start, sweep_on, sweep_stray, sweep_none, sweep_some}
use Rattle.tsplib_lines.proofs.numbers.numbers_of.Goals as goal

pub loop-b-init : goal.loop-b-init
loop-b-init c = sweep_start _

pub returns-in_err-sweep : goal.returns-in_err-sweep
returns-in_err-sweep c = c.from_residual.ensures ∙ sweep_stray c.loop-b.invariant c.loop-b-test.true (sym c.byte.ensures ∙ c.in_err-sweep.was)

pub loop-b-preserved : goal.loop-b-preserved
loop-b-preserved c = sweep_on c.loop-b.invariant c.loop-b-test.true (sym c.byte.ensures ∙ c.in_ok-sweep.was)

pub returns-then-total-eq0 : goal.returns-then-total-eq0
returns-then-total-eq0 c = sweep_none c.loop-b.invariant c.loop-b-test.false c.end-total.ensures c.if-total-eq0.true

pub returns-else-total-eq0 : goal.returns-else-total-eq0
returns-else-total-eq0 c = sweep_some c.loop-b.invariant c.loop-b-test.false c.end-total.ensures c.if-total-eq0.false
