-- `lengths::rows::fill_below` meets its contract: `Below` holds at the loop's head. Assumes nothing.
use Rattle.endian.specs.Bytes.{whole32}
use Rattle.lengths.proofs.RowFilling.{Below}
use Rattle.lengths.proofs.rows.fill_below.Given as goal

abbrev pub invariant-loop-x : goal.invariant-loop-x
invariant-loop-x l = Below l.n (whole32 l.table) l.initial.rows l.at l.v l.rows l.from l.step l.x
