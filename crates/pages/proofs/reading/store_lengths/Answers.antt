-- `pages::reading::store_lengths` meets its contract: `StoringLengths` holds at the loop's head. Assumes nothing.
use native.Mathlib.Omega.{arith}
use mathlib.Core.Path.{◌∙◌, ap}
use Rattle.pages.specs.PageLine.{length_read}
use Rattle.pages.proofs.Seeking.{line_part}
use Rattle.pages.proofs.Storing.{stored_line, lengths_start, entry_there, lengths_on, lengths_done}
use Rattle.pages.proofs.reading.store_lengths.Goals as goal

pub loop-i-init : goal.loop-i-init
loop-i-init c = lengths_start _ _ _ _

pub overflow_mul-at : goal.overflow_mul-at
overflow_mul-at c = omega (arith, c.requires.most, c.loop-i-test.true)

pub overflow_add-end : goal.overflow_add-end
overflow_add-end c = omega (arith, c.requires.most, c.loop-i-test.true)

pub overflow_add-first : goal.overflow_add-first
overflow_add-first c = omega (arith, c.requires.few, c.loop-i-test.true)

pub slice_bounds-length_read-end : goal.slice_bounds-length_read-end
slice_bounds-length_read-end c = omega (arith, c.requires.whole, c.loop-i-test.true)

pub length_read-requires : goal.length_read-requires
length_read-requires c = stored_line c.requires c.loop-i-test.true

pub put-requires : goal.put-requires
put-requires c = entry_there c.requires c.loop-i.invariant c.loop-i-test.true

pub loop-i-preserved : goal.loop-i-preserved
loop-i-preserved c =
    lengths_on c.requires c.loop-i.invariant c.loop-i-test.true (c.length_read.ensures ∙ ap length_read (line_part _ _)) c.put.ensures

pub shape_of-table : goal.shape_of-table
shape_of-table c = c.loop-i.invariant.kept

pub returns : goal.returns
returns c = lengths_done c.requires c.loop-i.invariant c.loop-i-test.false
