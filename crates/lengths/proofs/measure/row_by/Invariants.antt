-- `lengths::measure::row_by` meets its contract: `RowFilling` holds at the loop's head. Assumes nothing.
use Rattle.endian.specs.Bytes.{whole32}
use Rattle.lengths.proofs.Filling.{RowFilling}
use Rattle.lengths.proofs.measure.row_by.Given as goal

abbrev pub invariant-loop-i : goal.invariant-loop-i
invariant-loop-i l = RowFilling l.n l.rule (whole32 l.coordinates) l.a l.at l.initial.table l.table l.i
