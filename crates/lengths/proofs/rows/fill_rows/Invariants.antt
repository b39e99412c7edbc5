-- `lengths::rows::fill_rows` meets its contract: `RowsTo` holds at the loop's head. Assumes nothing.
use Rattle.endian.specs.Bytes.{whole32}
use Rattle.lengths.proofs.RowFilling.{RowsTo}
use Rattle.lengths.proofs.rows.fill_rows.Given as goal

abbrev pub invariant-loop-v : goal.invariant-loop-v
invariant-loop-v l = RowsTo l.n (whole32 l.table) l.initial.rows l.rows l.v
