-- `lengths::rows::fill_above` meets its contract: `Above` holds at the loop's head. Assumes nothing.
use Rattle.endian.specs.Bytes.{whole32}
use Rattle.lengths.proofs.RowFilling.{Above}
use Rattle.lengths.proofs.rows.fill_above.Given as goal

abbrev pub invariant-loop-i : goal.invariant-loop-i
invariant-loop-i l = Above l.n (whole32 l.table) l.initial.rows l.at l.v l.rows l.i
