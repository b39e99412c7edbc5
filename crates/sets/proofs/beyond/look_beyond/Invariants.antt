-- `sets::beyond::look_beyond` meets its contract. The invariant: `met` is what v has in the first i edges.
-- Assumes nothing.
use mathlib.Core.Path.{◌≡◌}
use Rattle.sets.specs.Neighbours.{neighbours_of, beyond}
use Rattle.sets.specs.asks.Stored.{edges_of}
use Rattle.sets.proofs.beyond.look_beyond.Given as goal

abbrev pub invariant-loop-i : goal.invariant-loop-i
invariant-loop-i l = l.met ≡ beyond (neighbours_of (edges_of l.k.from l.k.to l.i) l.v) l.c
