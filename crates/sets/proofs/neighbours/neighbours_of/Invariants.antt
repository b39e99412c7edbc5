-- `sets::neighbours::neighbours_of` meets its contract. The invariant: `found` has v's neighbours in the first i edges.
-- Assumes nothing.
use mathlib.Core.Path.{◌≡◌}
use Rattle.sets.specs.Neighbours.{neighbours_of}
use Rattle.sets.specs.asks.Stored.{edges_of}
use Rattle.sets.proofs.neighbours.neighbours_of.Given as goal

abbrev pub invariant-loop-i : goal.invariant-loop-i
invariant-loop-i l = l.found ≡ neighbours_of (edges_of l.k.from l.k.to l.i) l.v
