-- `marks::converting::unpack_all` meets its contract: at the loop's head the first i marks are those of the set.
-- Assumes nothing.
use mathlib.Core.Path.{sym, ◌∙◌}
use Rattle.marks.proofs.PackedSets.{quarters_at}
use Rattle.marks.proofs.Packing.{one_filled, all_unpacked}
use Rattle.marks.proofs.converting.unpack_all.Goals as goal

pub loop-i-preserved : goal.loop-i-preserved
loop-i-preserved c = one_filled c.loop-i.invariant c.loop-i-test.true (c.quarter.ensures ∙ sym (quarters_at _ _))

pub returns : goal.returns
returns c = all_unpacked _ c.loop-i.invariant c.requires c.loop-i-test.false
