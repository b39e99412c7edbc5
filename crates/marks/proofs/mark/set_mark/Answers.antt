-- `marks::mark::set_mark` meets its contract: the mark is written at the place of the edge. Assumes nothing.
use Rattle.marks.proofs.PackedMarks.{edge_inside, edge_marked}
use Rattle.marks.proofs.mark.set_mark.Goals as goal

pub set_mark_at-requires : goal.set_mark_at-requires
set_mark_at-requires c =
    let p = c.requires in
    record { inside = edge_inside _ _ p.asked c.place.ensures.at; is_mark = p.is_mark }

pub returns : goal.returns
returns c = edge_marked _ _ c.requires.asked c.place.ensures.at c.set_mark_at.ensures
