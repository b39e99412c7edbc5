-- `lengths::measure::fill` meets its contract: `Filling` holds at the loop's head. Assumes nothing.
use Rattle.lengths.proofs.Filling.{first_row, row_fillable, rows_more, all_filled}
use Rattle.lengths.proofs.measure.fill.Goals as goal

pub loop-a-init : goal.loop-a-init
loop-a-init c = first_row c.requires

pub measure_row-requires : goal.measure_row-requires
measure_row-requires c = row_fillable c.loop-a.invariant c.loop-a-test.true

pub loop-a-preserved : goal.loop-a-preserved
loop-a-preserved c = rows_more c.loop-a.invariant c.loop-a-test.true c.measure_row.ensures

pub returns : goal.returns
returns c = all_filled c.loop-a.invariant c.loop-a-test.false
