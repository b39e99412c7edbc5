-- `pages::reading::store_marks` meets its contract: `StoringMarks` holds at the loop's head. Assumes nothing.
use native.Mathlib.Omega.{arith}
use Prim.Native.Nat.{ℕ}
use mathlib.Core.Path.{subst}
use mathlib.Core.List.{List}
use Rattle.pages.specs.asks.PageLine.{MarkReadIs}
use Rattle.pages.proofs.Seeking.{line_part}
use Rattle.pages.proofs.Storing.{stored_line, marks_start, mark_inside, marks_on, marks_done}
use Rattle.pages.proofs.reading.store_marks.Goals as goal

pub loop-i-init : goal.loop-i-init
loop-i-init c = marks_start _ _ _ _

pub overflow_mul-at : goal.overflow_mul-at
overflow_mul-at c = omega (arith, c.requires.most, c.loop-i-test.true)

pub overflow_add-end : goal.overflow_add-end
overflow_add-end c = omega (arith, c.requires.most, c.loop-i-test.true)

pub overflow_add-first : goal.overflow_add-first
overflow_add-first c = omega (arith, c.requires.few, c.loop-i-test.true)

pub slice_bounds-mark_read-end : goal.slice_bounds-mark_read-end
slice_bounds-mark_read-end c = omega (arith, c.requires.whole, c.loop-i-test.true)

pub mark_read-requires : goal.mark_read-requires
mark_read-requires c = stored_line c.requires c.loop-i-test.true

pub set_mark_at-requires : goal.set_mark_at-requires
set_mark_at-requires c =
    record { inside = mark_inside c.requires c.loop-i.invariant c.loop-i-test.true; is_mark = c.mark_read.ensures.is_mark }

pub loop-i-preserved : goal.loop-i-preserved
loop-i-preserved c =
    marks_on c.requires c.loop-i.invariant c.loop-i-test.true (subst (λ (x : List ℕ). MarkReadIs x c.mark_read.result) (line_part _ _) c.mark_read.ensures) c.set_mark_at.ensures

pub shape_of-set : goal.shape_of-set
shape_of-set c = c.loop-i.invariant.kept

pub returns : goal.returns
returns c = marks_done c.requires c.loop-i.invariant c.loop-i-test.false
