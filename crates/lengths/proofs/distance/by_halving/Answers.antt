-- `lengths::distance::by_halving` meets its contract: `Searching` holds at the loop's head. Assumes nothing.
use mathlib.Core.Path.{sym, ◌∙◌}
use Rattle.lengths.proofs.Searching.{start, upper, found}
use Rattle.lengths.proofs.distance.by_halving.Goals as goal

pub loop-low-init : goal.loop-low-init
loop-low-init c = start _ c.requires

pub loop-low-preserved : goal.loop-low-preserved
loop-low-preserved c = upper c.loop-low.invariant c.loop-low-test.true (sym c.test.ensures ∙ c.if-test.false)

pub returns : goal.returns
returns c = found c.loop-low.invariant c.loop-low-test.false
