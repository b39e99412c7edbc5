-- `enumeration::comparison::Comparison::find_below` meets its contract: `Below` holds at the loop's head, and the measure is the number
-- of points left below `other`. Assumes nothing.
use Prim.Native.Nat.{◌*◌}
use native.Mathlib.Omega.{arith}
use lib.Seq.{lt-length-set}
use Rattle.lengths.proofs.Tables.{length_small}
use Rattle.enumeration.proofs.AtEnd.{below_start, below_end, below_spans, below_room, below_more, below_on}
use Rattle.enumeration.proofs.comparison.Comparison.find_below.Goals as goal

pub overflow_add-cost : goal.overflow_add-cost
overflow_add-cost c = omega (arith, c.args.self.now.bounded.list.at_most_far c.args.other)

pub loop-x-init : goal.loop-x-init
loop-x-init c = below_start c.args.self.now c.requires

pub length_between-length-requires : goal.length_between-length-requires
length_between-length-requires c = below_spans c.loop-x.invariant c.loop-x-test.true

pub overflow_cast-at : goal.overflow_cast-at
overflow_cast-at c = omega (arith, below_room c.loop-x.invariant c.loop-x-test.true)

pub overflow_mul-at : goal.overflow_mul-at
overflow_mul-at c = omega (arith, below_room c.loop-x.invariant c.loop-x-test.true)

pub offset_bounds-found-at : goal.offset_bounds-found-at
offset_bounds-found-at c = omega (arith, below_room c.loop-x.invariant c.loop-x-test.true)

pub bounds-found-at : goal.bounds-found-at
bounds-found-at c = omega (arith, below_room c.loop-x.invariant c.loop-x-test.true)

pub overflow_add-found : goal.overflow_add-found
overflow_add-found c = omega (arith, below_room c.loop-x.invariant c.loop-x-test.true)

pub offset_bounds-found-at-in-loop-x : goal.offset_bounds-found-at-in-loop-x
offset_bounds-found-at-in-loop-x c = omega (arith, below_room c.loop-x.invariant c.loop-x-test.true)

pub bounds-found-at-in-loop-x : goal.bounds-found-at-in-loop-x
bounds-found-at-in-loop-x c = lt-length-set c.loop-x.found (2 * c.loop-x.count) c.loop-x.x (below_room c.loop-x.invariant c.loop-x-test.true).1

pub overflow_add-cost-in-loop-x : goal.overflow_add-cost-in-loop-x
overflow_add-cost-in-loop-x c = omega (arith, c.args.self.now.bounded.list.at_most_far c.args.other, c.args.self.now.bounded.list.at_most_far c.loop-x.x)

pub overflow_add-length : goal.overflow_add-length
overflow_add-length c = omega (arith, length_small c.args.self.now.lengths c.loop-x.x c.args.other, c.length_between-length.ensures.at, c.args.self.now.bounded.tight)

pub overflow_add-count : goal.overflow_add-count
overflow_add-count c = omega (arith, below_room c.loop-x.invariant c.loop-x-test.true, below_more c.loop-x.invariant c.loop-x-test.true c.length_between-length.ensures c.kept-count.ensures)

pub loop-x-preserved : goal.loop-x-preserved
loop-x-preserved c = below_on c.loop-x.invariant c.loop-x-test.true c.length_between-length.ensures c.kept-count.ensures

pub shape_of-found : goal.shape_of-found
shape_of-found c = c.loop-x.invariant.rows.size

pub returns : goal.returns
returns c = below_end c.loop-x.invariant c.loop-x-test.false
