-- `lengths::measure::row_by` meets its contract: `RowFilling` holds at the loop's head. Assumes nothing.
use native.Mathlib.Omega.{arith}
use Rattle.lengths.specs.Measure.{x_of, y_of}
use Rattle.lengths.proofs.Edges.{edges_few}
use Rattle.lengths.proofs.Filling.{row_inside, row_entry, row_more}
use Rattle.lengths.proofs.measure.row_by.Goals as goal

pub overflow_add-at : goal.overflow_add-at
overflow_add-at c =
    record { fits = omega (arith, row_inside c.loop-i.invariant c.loop-i-test.true, edges_few _ c.requires.few) }

pub put-requires : goal.put-requires
put-requires c = row_entry c.loop-i.invariant c.loop-i-test.true

pub loop-i-preserved : goal.loop-i-preserved
unfolding x_of y_of
loop-i-preserved c =
    row_more c.loop-i.invariant c.loop-i-test.true c.number-x.ensures c.number-y.ensures c.distance_to.ensures c.put.ensures
