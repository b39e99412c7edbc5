-- `rules::legs::Split::open_singly` meets its contract: the invariant is `OpenAbove`, that the legs below c + 1 + i are
-- filled in. Assumes nothing.
use Prim.Native.Nat.{◌≤◌}
use Rattle.rules.specs.asks.SplitLegs.{AboveSplit}
use Rattle.rules.proofs.legs.Split.open_singly.Given as goal

abbrev pub invariant-loop-i : goal.invariant-loop-i
invariant-loop-i l = AboveSplit l.self l.legs l.first l.i × (l.i ≤ l.to)
