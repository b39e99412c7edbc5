-- `sets::shape::reaches` meets its contract. The invariant: what is to be answered from here, with `counter` points of a
-- cycle passed, is what was to be answered at the start. Assumes nothing.
use Prim.Native.Nat.{◌-◌}
use mathlib.Core.Path.{◌≡◌}
use Rattle.sets.specs.Shape.{reaches?}
use Rattle.sets.specs.asks.Stored.{edge_list}
use Rattle.sets.proofs.shape.reaches.Given as goal

abbrev pub invariant-loop : goal.invariant-loop
invariant-loop l =
    reaches? (l.n - l.counter) (edge_list l.k) l.from l.at l.y ≡ reaches? (l.n - 3) (edge_list l.k) l.start l.first l.y
