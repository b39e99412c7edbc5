-- `rules::legs::Split::open_below` meets its contract: the invariant is `OpeningBelow`, that the legs below x are filled
-- in and `next` is one more than the place of xc. Assumes nothing.
use native.Mathlib.Omega.{arith}
use Rattle.marks.proofs.PackedMarks.{held_inside, held_open}
use Rattle.rules.proofs.LegLoops.{below_some, below_inside, below_small, below_on, below_end}
use Rattle.rules.proofs.legs.Split.open_below.Goals as goal

pub overflow_sub-next-in-loop-x : goal.overflow_sub-next-in-loop-x
overflow_sub-next-in-loop-x c = omega (arith, below_some c.loop-x.invariant c.loop-x-test.true)

pub leg-requires-clause-mark : goal.leg-requires-clause-mark
leg-requires-clause-mark c = held_inside _ _ c.loop-x.invariant.asked.marked (below_inside c.loop-x.invariant c.loop-x-test.true)

pub overflow_add-next : goal.overflow_add-next
overflow_add-next c = omega (arith, below_small c.loop-x.invariant c.loop-x-test.true)

pub loop-x-preserved : goal.loop-x-preserved
loop-x-preserved c =
    let l = c.loop-x.invariant in
    below_on l c.loop-x-test.true (held_open _ _ l.asked.marked (below_inside l c.loop-x-test.true) _) c.leg.ensures

pub returns : goal.returns
returns c = below_end c.loop-x.invariant c.loop-x-test.false
