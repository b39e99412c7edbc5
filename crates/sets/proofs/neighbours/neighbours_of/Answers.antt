-- `sets::neighbours::neighbours_of` meets its contract. The invariant: `found` has v's neighbours in the first i edges.
-- Assumes nothing.
use native.Mathlib.Omega.{arith}
use mathlib.Core.Path.{◌≡◌, refl, ◌∙◌}
use Rattle.sets.specs.Neighbours.{neighbours_of}
use Rattle.sets.specs.asks.Stored.{edges_of, edge_list}
use Rattle.sets.proofs.Laws.Stored.{neighbours_up}
use Rattle.sets.proofs.neighbours.neighbours_of.Goals as goal

pub loop-i-init : goal.loop-i-init
unfolding neighbours_of edges_of
loop-i-init c = refl

pub loop-i-preserved : goal.loop-i-preserved
loop-i-preserved c = c.seeing-found.ensures ∙ rw (neighbours_up, c.loop-i.invariant)

pub returns : goal.returns
unfolding edge_list
returns c = let e : c.loop-i.i ≡ c.args.k.count = omega arith in c.loop-i.invariant ∙ rw e
