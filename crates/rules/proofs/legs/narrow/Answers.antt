-- `rules::legs::narrow` meets its contract: the invariant is `Narrowing`, that the legs below x have taken in the edge
-- and the others are as they were. Assumes nothing.
use native.Mathlib.Omega.{arith}
use Rattle.rules.proofs.LegLoops.{narrowing_both, narrowing_one, narrowing_other, narrowing_on, narrowing_end}
use Rattle.rules.proofs.legs.narrow.Goals as goal

pub overflow_add-leg : goal.overflow_add-leg
overflow_add-leg c = omega (arith, narrowing_both c.requires c.loop-x.invariant c.loop-x-test.true)

pub overflow_add-cp : goal.overflow_add-cp
overflow_add-cp c = omega (arith, narrowing_one c.requires c.loop-x.invariant c.loop-x-test.true)

pub overflow_add-cq : goal.overflow_add-cq
overflow_add-cq c = omega (arith, narrowing_other c.requires c.loop-x.invariant c.loop-x-test.true)

pub loop-x-preserved : goal.loop-x-preserved
loop-x-preserved c = narrowing_on c.requires c.loop-x.invariant c.loop-x-test.true c.narrow_leg.ensures

pub returns : goal.returns
returns c = narrowing_end c.loop-x.invariant c.loop-x-test.false
