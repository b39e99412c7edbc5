-- `lengths::rows::fill_above` meets its contract: `Above` holds at the loop's head. Assumes nothing.
use native.Mathlib.Omega.{arith}
use Rattle.lengths.proofs.Edges.{edges_few}
use Rattle.lengths.proofs.RowFilling.{above_inside, above_more}
use Rattle.lengths.proofs.rows.fill_above.Goals as goal

pub overflow_add-first : goal.overflow_add-first
overflow_add-first c = omega (arith, above_inside c.requires c.loop-i.invariant c.place-first.ensures c.loop-i-test.true, c.requires.whole, edges_few _ c.requires.few)

pub number-requires : goal.number-requires
number-requires c = above_inside c.requires c.loop-i.invariant c.place-first.ensures c.loop-i-test.true

pub loop-i-preserved : goal.loop-i-preserved
loop-i-preserved c = above_more c.requires c.loop-i.invariant c.place-first.ensures c.loop-i-test.true c.number.ensures
