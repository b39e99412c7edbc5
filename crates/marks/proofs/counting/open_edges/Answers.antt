-- `marks::counting::open_edges` meets its contract: `Counting` holds at the loop's head. Assumes nothing.
use Prim.Native.Nat.{◌<◌}
use mathlib.Core.Path.{◌∙◌, sym}
use native.Mathlib.Omega.{arith}
use Rattle.lengths.specs.Edge.{edge_count}
use Rattle.lengths.proofs.Edges.{edges_few}
use Rattle.marks.proofs.PackedMarks.{held_inside, held_open}
use Rattle.marks.proofs.OpenCounts.{count_open, count_struck, count_done}
use Rattle.marks.proofs.counting.open_edges.Goals as goal
use Rattle.marks.proofs.counting.open_edges.Goals.{then-open_at, else-open_at}

pub open_at-requires : goal.open_at-requires
open_at-requires c =
    let at : c.loop-i.i < edge_count c.args.n = rw (sym c.count-i-end.ensures) c.loop-i-test.true in
    held_inside _ _ c.requires.whole at

pub overflow_add-opens : goal.overflow_add-opens
overflow_add-opens c =
    let at : c.loop-i.i < edge_count c.args.n = rw (sym c.count-i-end.ensures) c.loop-i-test.true in
    record { fits = omega (arith, edges_few _ c.requires.few, at, c.loop-i.invariant) }

pub loop-i-preserved : goal.loop-i-preserved
loop-i-preserved c =
    let at : c.loop-i.i < edge_count c.args.n = rw (sym c.count-i-end.ensures) c.loop-i-test.true in
    let p = c.requires in let o = c.open_at.ensures ∙ held_open _ _ p.whole at _ in
    elim c.if-open_at.branch [
      | then-open_at w ↦ count_open c.loop-i.invariant (rw p.whole at) o w.if-open_at.true w.opens-is
      | else-open_at w ↦ count_struck c.loop-i.invariant (rw p.whole at) o w.if-open_at.false w.opens-is
    ]

pub returns : goal.returns
returns c = count_done c.loop-i.invariant (rw (c.requires.whole, sym c.count-i-end.ensures) c.loop-i-test.false)
