-- `enumeration::comparison::Comparison::find_in_row` meets its contract: `Rowing` holds at the loop's head, and the measure is what is
-- left of the row. Assumes nothing.
use Prim.Native.Nat.{◌+◌, ◌*◌}
use native.Mathlib.Omega.{arith}
use lib.Seq.{lt-length-set}
use Rattle.enumeration.proofs.Rows.{row_far, row_edge, rowing_start, rowing_on, rowing_end, in_table, place_small, has_room, one_more}
use Rattle.enumeration.proofs.comparison.Comparison.find_in_row.Goals as goal

pub returns-then-leg-eq-FAR : goal.returns-then-leg-eq-FAR
returns-then-leg-eq-FAR c = row_far c.args.self.now c.args.barred c.requires c.if-leg-eq-FAR.true

pub overflow_add-cost : goal.overflow_add-cost
overflow_add-cost c = omega (arith, c.args.self.now.bounded.list.at_most_far c.args.x)

pub place-first-requires : goal.place-first-requires
place-first-requires c = row_edge c.requires

pub loop-i-init : goal.loop-i-init
loop-i-init c = rowing_start c.args.self.now c.args.barred c.requires c.place-first.ensures.at

pub overflow_cast-at : goal.overflow_cast-at
overflow_cast-at c = omega (arith, has_room c.loop-i.invariant c.loop-i-test.true)

pub overflow_mul-at : goal.overflow_mul-at
overflow_mul-at c = omega (arith, has_room c.loop-i.invariant c.loop-i-test.true)

pub offset_bounds-found-at : goal.offset_bounds-found-at
offset_bounds-found-at c = omega (arith, has_room c.loop-i.invariant c.loop-i-test.true)

pub bounds-found-at : goal.bounds-found-at
bounds-found-at c = omega (arith, has_room c.loop-i.invariant c.loop-i-test.true)

pub overflow_add-found : goal.overflow_add-found
overflow_add-found c = omega (arith, has_room c.loop-i.invariant c.loop-i-test.true)

pub offset_bounds-found-at-in-loop-i : goal.offset_bounds-found-at-in-loop-i
offset_bounds-found-at-in-loop-i c = omega (arith, has_room c.loop-i.invariant c.loop-i-test.true)

pub bounds-found-at-in-loop-i : goal.bounds-found-at-in-loop-i
bounds-found-at-in-loop-i c = lt-length-set c.loop-i.found (2 * c.loop-i.count) c.args.x (has_room c.loop-i.invariant c.loop-i-test.true).1

pub overflow_add-cost-in-loop-i : goal.overflow_add-cost-in-loop-i
overflow_add-cost-in-loop-i c = omega (arith, c.args.self.now.bounded.list.at_most_far c.args.x, c.args.self.now.bounded.list.at_most_far (c.args.x + 1 + c.loop-i.i))

pub overflow_add-first : goal.overflow_add-first
overflow_add-first c = omega (arith, place_small c.loop-i.invariant c.loop-i-test.true)

pub number-requires : goal.number-requires
number-requires c = in_table c.loop-i.invariant c.loop-i-test.true

pub overflow_add-number : goal.overflow_add-number
overflow_add-number c = omega (arith, c.number.ensures, c.args.self.now.lengths.small (c.place-first.result + c.loop-i.i), c.args.self.now.bounded.tight)

pub overflow_add-count : goal.overflow_add-count
overflow_add-count c = omega (arith, has_room c.loop-i.invariant c.loop-i-test.true, one_more c.loop-i.invariant c.loop-i-test.true c.unwrap_or-skip.result c.number.result c.kept-count.ensures)

pub loop-i-preserved : goal.loop-i-preserved
loop-i-preserved c = rowing_on c.loop-i.invariant c.loop-i-test.true c.unwrap_or-skip.ensures c.number.ensures c.kept-count.ensures

pub shape_of-found : goal.shape_of-found
shape_of-found c = c.loop-i.invariant.size

pub returns : goal.returns
returns c = rowing_end c.loop-i.invariant c.loop-i-test.false
