-- `lengths::measure::fill` meets its contract: `Filling` holds at the loop's head. Assumes nothing.
use Rattle.endian.specs.Bytes.{whole32}
use Rattle.lengths.proofs.Filling.{Filling}
use Rattle.lengths.proofs.measure.fill.Given as goal

abbrev pub invariant-loop-a : goal.invariant-loop-a
invariant-loop-a l = Filling l.n l.rule (whole32 l.coordinates) l.initial.table l.table l.a l.at
