-- `rules::legs::Split::open_singly` meets its contract: the invariant is `OpenAbove`, that the legs below c + 1 + i are
-- filled in. Assumes nothing.
use Prim.Native.Nat.{◌-◌, ◌<◌}
use native.Mathlib.Omega.{arith}
use Rattle.lengths.proofs.Edges.{edges_fit, edge_count_tri}
use Rattle.marks.proofs.PackedMarks.{held_inside, held_open}
use Rattle.rules.proofs.LegLoops.{above_inside, above_on, singly_end}
use Rattle.rules.proofs.legs.Split.open_singly.Goals as goal

pub overflow_add-first : goal.overflow_add-first
overflow_add-first c =
    let inside = above_inside c.loop-i.invariant.0 (omega (arith, c.requires.room, c.loop-i-test.true)) in
    record { fits = omega (arith, inside, edges_fit {n = c.args.self.n} (omega (arith, c.requires.above.asked.few)), edge_count_tri c.args.self.n) }

pub leg-requires-clause-mark : goal.leg-requires-clause-mark
leg-requires-clause-mark c =
    let l = c.loop-i.invariant.0 in
    held_inside _ _ l.asked.marked (above_inside l (omega (arith, c.requires.room, c.loop-i-test.true)))

pub loop-i-preserved : goal.loop-i-preserved
loop-i-preserved c =
    let l = c.loop-i.invariant.0 in
    let room : c.loop-i.i < c.args.self.n - c.args.self.c = omega (arith, c.requires.room, c.loop-i-test.true) in
    (above_on l room (held_open _ _ l.asked.marked (above_inside l room) _) c.leg.ensures, omega (arith, c.loop-i-test.true))

pub returns : goal.returns
returns c = singly_end _ c.loop-i.invariant.0 (omega (arith, c.loop-i.invariant.1, c.loop-i-test.false))
