-- `lengths::distance::by_halving` meets its contract: `Searching` holds at the loop's head. Assumes nothing.
use Prim.Native.Nat.{◌-◌}
use Rattle.lengths.specs.asks.Distance.{rounded_by}
use Rattle.lengths.proofs.Searching.{Searching}
use Rattle.lengths.proofs.distance.by_halving.Given as goal

abbrev pub invariant-loop-low : goal.invariant-loop-low
invariant-loop-low l = Searching (rounded_by l.rounding) l.s l.low l.high

abbrev pub decreases-loop-low : goal.decreases-loop-low
decreases-loop-low l = l.high - l.low
