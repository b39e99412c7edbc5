-- `marks::fresh::open_all` meets its contract: at the loop's head the first i bytes are those of open edges.
-- Assumes nothing.
use Prim.Native.Nat.{◌*◌, ◌<◌}
use native.Mathlib.Omega.{arith}
use mathlib.Core.Path.{◌∙◌}
use Rattle.marks.proofs.Packing.{one_filled, all_packed}
use Rattle.marks.proofs.FreshMarks.{some_left, open_room, opened_byte}
use Rattle.marks.proofs.fresh.open_all.Goals as goal

pub overflow_mul-i : goal.overflow_mul-i
overflow_mul-i c =
    let left : 4 * c.loop-i.i < c.args.edges = some_left _ c.requires c.loop-i-test.true in
    record { fits = omega (arith, left, c.ranges.edges) }

pub overflow_sub-edges : goal.overflow_sub-edges
overflow_sub-edges c =
    let left : 4 * c.loop-i.i < c.args.edges = some_left _ c.requires c.loop-i-test.true in
    omega (arith, left)

pub open_byte-requires : goal.open_byte-requires
open_byte-requires c =
    let left : 4 * c.loop-i.i < c.args.edges = some_left _ c.requires c.loop-i-test.true in
    omega (arith, left)

pub loop-i-preserved : goal.loop-i-preserved
loop-i-preserved c =
    let left : 4 * c.loop-i.i < c.args.edges = some_left _ c.requires c.loop-i-test.true in
    one_filled c.loop-i.invariant c.loop-i-test.true (c.open_byte.ensures ∙ opened_byte _ _ (omega (arith, left)))

pub returns : goal.returns
returns c = all_packed _ c.loop-i.invariant (open_room _ c.requires) c.loop-i-test.false
