-- `marks::mark::is_open` meets its contract: the mark stands at the edge's place. Assumes nothing.
use mathlib.Core.Path.{◌∙◌, ap}
use Rattle.marks.specs.Mark.{open_at}
use Rattle.marks.proofs.PackedMarks.{edge_inside, edge_open}
use Rattle.marks.proofs.mark.is_open.Goals as goal

pub open_at-requires : goal.open_at-requires
open_at-requires c = edge_inside _ _ c.requires c.place.ensures.at

pub returns : goal.returns
returns c = c.open_at.ensures ∙ ap (open_at _ _) c.place.ensures.at ∙ edge_open _ _ c.requires _
