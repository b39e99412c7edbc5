-- `marking::mark_between::mark_admitted` meets its contract: either pair of arrays has room for the rows. Assumes
-- nothing.
use Rattle.lengths.specs.Instance.{few_points, most_points}
use Rattle.marking.proofs.MarkingSheets.{rows_room, cleared}
use Rattle.marking.proofs.mark_between.mark_admitted.Goals as goal

pub mark_by_rows-requires : goal.mark_by_rows-requires
mark_by_rows-requires c = rows_room few_points c.requires c.if-n-le-FEW_POINTS.true (cleared few_points) (cleared few_points)

pub mark_by_rows-requires-2 : goal.mark_by_rows-requires-2
mark_by_rows-requires-2 c = let p = c.requires in rows_room most_points p p.admitted.intervals.out_lengths.few (cleared most_points) (cleared most_points)
