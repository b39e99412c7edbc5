-- `pages::writing::put_lines` meets its contract: `Putting` holds at the loop's head, over the marks that the packed
-- set holds. What the loop keeps stands first, so that a wrong line is refused there. Assumes nothing.
use native.Mathlib.Omega.{arith}
use mathlib.Core.Path.{◌∙◌}
use Rattle.lengths.proofs.Edges.{edges_few}
use Rattle.marks.proofs.PackedMarks.{held_inside, held_at}
use Rattle.pages.proofs.PageLines.{first_asked, put_start, put_inside, put_edge, put_short, put_asked, put_on, put_done}
use Rattle.pages.proofs.writing.put_lines.Goals as goal

pub loop-i-preserved : goal.loop-i-preserved
loop-i-preserved c =
    put_on c.requires c.loop-i.invariant c.loop-i-test.true c.number-len.ensures
    (c.mark_at-mark.ensures ∙ held_at _ _ c.requires.marked (put_inside c.requires c.loop-i.invariant c.loop-i-test.true))
    c.put_line-at.ensures c.following-edge.ensures

pub edge_at-edge-requires : goal.edge_at-edge-requires
edge_at-edge-requires c = first_asked c.requires.part

pub loop-i-init : goal.loop-i-init
loop-i-init c = put_start c.edge_at-edge.ensures

pub overflow_add-place : goal.overflow_add-place
overflow_add-place c = omega (arith, put_inside c.requires c.loop-i.invariant c.loop-i-test.true, edges_few _ c.requires.part.few)

pub number-len-requires : goal.number-len-requires
number-len-requires c = omega (arith, put_inside c.requires c.loop-i.invariant c.loop-i-test.true, c.requires.within.whole)

pub mark_at-mark-requires : goal.mark_at-mark-requires
mark_at-mark-requires c = held_inside _ _ c.requires.marked (put_inside c.requires c.loop-i.invariant c.loop-i-test.true)

pub overflow_cast-edge : goal.overflow_cast-edge
overflow_cast-edge c = omega (arith, put_short c.requires c.loop-i.invariant c.loop-i-test.true)

pub overflow_cast-edge-in-loop-i : goal.overflow_cast-edge-in-loop-i
overflow_cast-edge-in-loop-i c = omega (arith, put_short c.requires c.loop-i.invariant c.loop-i-test.true)

pub put_line-at-requires : goal.put_line-at-requires
put_line-at-requires c =
    put_asked c.requires c.loop-i.invariant c.loop-i-test.true c.number-len.ensures

pub following-edge-requires : goal.following-edge-requires
following-edge-requires c =
    (c.requires.part.few, put_edge c.requires c.loop-i.invariant c.loop-i-test.true)

pub shape_of-text : goal.shape_of-text
shape_of-text c = c.loop-i.invariant.wrote.kept

pub returns : goal.returns
returns c = put_done c.requires c.loop-i.invariant c.loop-i-test.false
