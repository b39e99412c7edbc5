-- `report::lines::put_strikes` meets its contract: `Striking` holds at the loop's head, over the marks that the packed
-- set holds. Assumes nothing.
use Prim.Native.Nat.{◌<◌}
use mathlib.Core.Path.{sym, ◌∙◌}
use native.Mathlib.Omega.{arith}
use Rattle.lengths.specs.Edge.{edge_count}
use Rattle.lengths.specs.asks.Edge.{IsEdgeUp}
use Rattle.marks.specs.Mark.{open_mark}
use Rattle.marks.proofs.PackedMarks.{held_inside, held_open}
use Rattle.report.proofs.Striking.{first_edge, at_edge, mark_room, striking_on, all_struck}
use Rattle.report.proofs.lines.put_strikes.Goals as goal

pub loop-i-init : goal.loop-i-init
loop-i-init c = first_edge c.requires

pub open_at-opened-requires : goal.open_at-opened-requires
open_at-opened-requires c =
    let at : c.loop-i.i < edge_count c.args.n = rw (sym c.count-i-end.ensures) c.loop-i-test.true in
    held_inside _ _ c.requires.marked at

pub overflow_cast-edge : goal.overflow_cast-edge
overflow_cast-edge c =
    let at : c.loop-i.i < edge_count c.args.n = rw (sym c.count-i-end.ensures) c.loop-i-test.true in
    let here : IsEdgeUp c.args.n c.loop-i.edge.low c.loop-i.edge.high = (at_edge c.requires c.loop-i.invariant at).0 in
    record { fits = omega (arith, c.requires.few, here) }

pub overflow_cast-edge-in-loop-i : goal.overflow_cast-edge-in-loop-i
overflow_cast-edge-in-loop-i c =
    let at : c.loop-i.i < edge_count c.args.n = rw (sym c.count-i-end.ensures) c.loop-i-test.true in
    let here : IsEdgeUp c.args.n c.loop-i.edge.low c.loop-i.edge.high = (at_edge c.requires c.loop-i.invariant at).0 in
    record { fits = omega (arith, c.requires.few, here) }

pub put_mark-next-requires : goal.put_mark-next-requires
put_mark-next-requires c =
    let at : c.loop-i.i < edge_count c.args.n = rw (sym c.count-i-end.ensures) c.loop-i-test.true in
    let p = c.requires in
    mark_room p c.loop-i.invariant at (c.open_at-opened.ensures ∙ held_open _ _ p.marked at open_mark)

pub following-edge-requires : goal.following-edge-requires
following-edge-requires c =
    let at : c.loop-i.i < edge_count c.args.n = rw (sym c.count-i-end.ensures) c.loop-i-test.true in
    let here : IsEdgeUp c.args.n c.loop-i.edge.low c.loop-i.edge.high = (at_edge c.requires c.loop-i.invariant at).0 in
    (c.requires.few, here)

pub loop-i-preserved : goal.loop-i-preserved
loop-i-preserved c =
    let at : c.loop-i.i < edge_count c.args.n = rw (sym c.count-i-end.ensures) c.loop-i-test.true in
    let p = c.requires in
    striking_on p c.loop-i.invariant at (c.open_at-opened.ensures ∙ held_open _ _ p.marked at open_mark) c.put_mark-next.ensures c.following-edge.ensures

pub shape_of-out : goal.shape_of-out
shape_of-out c = c.loop-i.invariant.kept

pub returns : goal.returns
returns c = all_struck c.requires c.loop-i.invariant (rw (sym c.count-i-end.ensures) c.loop-i-test.false)
