-- `lengths::edge::place` meets its contract: the smaller point goes first. Assumes nothing.
use mathlib.Core.Path.{◌∙◌}
use Rattle.lengths.proofs.Edges.{place_sorted, placed}
use Rattle.lengths.proofs.edge.place.Goals as goal

pub returns : goal.returns
returns c = placed c.requires (c.place_up.ensures ∙ place_sorted _ _ _ c.min.ensures c.max.ensures)
