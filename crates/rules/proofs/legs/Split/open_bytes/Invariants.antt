-- `rules::legs::Split::open_bytes` meets its contract: at the loop's head the legs of `from` + 4 k points above c are
-- filled in. Assumes nothing.
use Prim.Native.Nat.{◌+◌, ◌*◌, ◌≤◌}
use Rattle.rules.specs.asks.SplitLegs.{AboveSplit}
use Rattle.rules.proofs.legs.Split.open_bytes.Given as goal

abbrev pub invariant-loop-k : goal.invariant-loop-k
invariant-loop-k l = AboveSplit l.self l.legs l.first (l.from + 4 * l.k) × (l.k ≤ l.bytes)
