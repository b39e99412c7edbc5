-- `rules::legs::Split::open_bytes` meets its contract: at the loop's head the legs of `from` + 4 k points above c are
-- filled in. Assumes nothing.
use Prim.Native.Nat.{◌-◌, ◌+◌, ◌*◌, ◌<◌, ◌≤◌}
use native.Mathlib.Omega.{arith}
use Rattle.lengths.specs.Edge.{edge_count}
use Rattle.lengths.proofs.Edges.{edges_fit, edge_count_tri}
use Rattle.marks.proofs.PackedMarks.{held_inside}
use Rattle.rules.proofs.LegLoops.{four_inside, bytes_on, singly_end}
use Rattle.rules.proofs.legs.Split.open_bytes.Goals as goal

pub loop-k-init : goal.loop-k-init
loop-k-init c = (singly_end _ c.requires.above (omega arith), omega arith)

pub overflow_add-byte : goal.overflow_add-byte
overflow_add-byte c =
    let room : let a = c.args in a.from + 4 * c.loop-k.k + 4 ≤ a.self.n - a.self.c = omega (arith, c.requires.room, c.loop-k-test.true) in
    let place : let a = c.args in a.first + (a.from + 4 * c.loop-k.k) + 3 < edge_count a.self.n = four_inside c.loop-k.invariant.0 room in
    record { fits = omega (arith, place, edges_fit {n = c.args.self.n} (omega (arith, c.requires.above.asked.few)), edge_count_tri c.args.self.n) }

pub bounds-self-first : goal.bounds-self-first
bounds-self-first c =
    let room : let a = c.args in a.from + 4 * c.loop-k.k + 4 ≤ a.self.n - a.self.c = omega (arith, c.requires.room, c.loop-k-test.true) in
    let place : let a = c.args in a.first + (a.from + 4 * c.loop-k.k) + 3 < edge_count a.self.n = four_inside c.loop-k.invariant.0 room in
    omega (arith, held_inside _ _ c.loop-k.invariant.0.asked.marked place)

pub loop-k-preserved : goal.loop-k-preserved
loop-k-preserved c =
    let room : let a = c.args in a.from + 4 * c.loop-k.k + 4 ≤ a.self.n - a.self.c = omega (arith, c.requires.room, c.loop-k-test.true) in
    let p = c.requires in (bytes_on c.args.self.marks.now _ c.loop-k.invariant.0 room (omega (arith, p.begins (omega (arith, c.loop-k-test.true)))) c.sheet_legs.ensures (omega arith), omega (arith, c.loop-k-test.true))

pub returns : goal.returns
returns c = singly_end _ c.loop-k.invariant.0 (omega (arith, c.loop-k.invariant.1, c.loop-k-test.false))
