-- `reasons::line_text::put_text` meets its contract: `Putting` holds at the loop's head. Assumes nothing.
use native.Mathlib.Omega.{arith}
use Rattle.reasons.proofs.LineTexts.{put_start, edge_here, edge_small, put_asked, put_on, put_done}
use Rattle.reasons.proofs.line_text.put_text.Goals as goal

pub loop-init : goal.loop-init
loop-init c = put_start c.requires _ _ _

pub overflow_cast-edge : goal.overflow_cast-edge
overflow_cast-edge c =
    omega (
      arith,
      (edge_small c.requires _ c.loop.invariant
          c.count-end.ensures c.loop-test.true).0,
    )

pub overflow_cast-edge-in-loop : goal.overflow_cast-edge-in-loop
overflow_cast-edge-in-loop c =
    omega (
      arith,
      (edge_small c.requires _ c.loop.invariant
          c.count-end.ensures c.loop-test.true).1,
    )

pub tell_edge-spot-requires : goal.tell_edge-spot-requires
tell_edge-spot-requires c =
    put_asked c.requires _ c.loop.invariant
    c.count-end.ensures c.loop-test.true

pub following-edge-requires : goal.following-edge-requires
following-edge-requires c =
    let p = c.requires in
    (p.split.lengths.few, edge_here p _ c.loop.invariant c.count-end.ensures c.loop-test.true)

pub loop-preserved : goal.loop-preserved
loop-preserved c =
    put_on c.requires _ c.loop.invariant c.count-end.ensures
    c.loop-test.true c.tell_edge-spot.ensures c.following-edge.ensures

pub shape_of-text : goal.shape_of-text
shape_of-text c = c.loop.invariant.fitted.kept

pub returns : goal.returns
returns c =
    put_done c.requires _ c.loop.invariant c.count-end.ensures
    c.loop-test.false
