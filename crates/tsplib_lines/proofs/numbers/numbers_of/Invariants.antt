-- `tsplib_lines::numbers::numbers_of` meets its contract: `Sweeping` holds at the loop's head. Assumes nothing.
use Rattle.tsplib_lines.proofs.NumberSweep.{Sweeping}
use Rattle.tsplib_lines.proofs.numbers.numbers_of.Given as goal

abbrev pub invariant-loop-b : goal.invariant-loop-b
invariant-loop-b l = Sweeping l.text l.sweep l.b-index
