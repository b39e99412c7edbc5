-- `marks::mark::mark_at` meets its contract: the mark stands in its two bits. Assumes nothing.
use mathlib.Core.Path.{sym, ◌∙◌}
use Rattle.marks.specs.Mark.{mark_at}
use Rattle.marks.proofs.PackedSets.{quarters_at}
use Rattle.marks.proofs.mark.mark_at.Goals as goal

pub returns : goal.returns
unfolding mark_at
returns c = c.quarter.ensures ∙ sym (quarters_at _ _)
