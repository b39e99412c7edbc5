-- `lengths::rows::fill_rows` meets its contract: `RowsTo` holds at the loop's head. Assumes nothing.
use borrow.Author.Rules.{rules}
use Rattle.lengths.proofs.RowFilling.{rows_more, rows_done}
use Rattle.lengths.proofs.rows.fill_rows.Goals as goal

pub loop-v-preserved : goal.loop-v-preserved
loop-v-preserved c = rows_more c.requires c.loop-v.invariant c.row_start.ensures c.loop-v-test.true c.fill_row.ensures

pub returns-2 : goal.returns-2
returns-2 c = rows_done (rows_more c.requires c.loop-v.invariant c.row_start.ensures c.loop-v-test.true c.fill_row.ensures) (search rules)
