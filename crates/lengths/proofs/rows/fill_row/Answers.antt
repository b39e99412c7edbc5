-- `lengths::rows::fill_row` meets its contract: the part below v, v itself, and the part above it are the row.
-- Assumes nothing.
use Rattle.lengths.proofs.RowFilling.{row_done}
use Rattle.lengths.proofs.rows.fill_row.Goals as goal

pub returns : goal.returns
returns c = row_done c.requires c.fill_below.ensures c.fill_above.ensures
