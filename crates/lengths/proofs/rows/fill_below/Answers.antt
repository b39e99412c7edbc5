-- `lengths::rows::fill_below` meets its contract: `Below` holds at the loop's head. Assumes nothing.
use native.Mathlib.Omega.{arith}
use Rattle.lengths.proofs.Edges.{edges_few}
use Rattle.lengths.proofs.RowFilling.{below_place, below_inside, below_more}
use Rattle.lengths.proofs.rows.fill_below.Goals as goal

pub overflow_sub-from-in-loop-x : goal.overflow_sub-from-in-loop-x
overflow_sub-from-in-loop-x c = omega (arith, below_place c.requires c.loop-x.invariant c.loop-x-test.true)

pub number-requires : goal.number-requires
number-requires c = below_inside c.requires c.loop-x.invariant c.loop-x-test.true

pub overflow_add-from : goal.overflow_add-from
overflow_add-from c = omega (arith, below_inside c.requires c.loop-x.invariant c.loop-x-test.true, c.requires.whole, edges_few _ c.requires.few)

pub loop-x-preserved : goal.loop-x-preserved
loop-x-preserved c = below_more c.requires c.loop-x.invariant c.loop-x-test.true c.number.ensures
