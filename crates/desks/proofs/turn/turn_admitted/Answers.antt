-- `desks::turn::turn_admitted` meets its contract: either array has room for the rows. Assumes nothing.
use Prim.Native.Nat.{ℕ, ◌+◌, ◌*◌}
use lib.ListN.{length-replicate}
use Rattle.lengths.specs.Instance.{few_points, most_points, point_places}
use Rattle.desks.proofs.TurnAnswers.{turn_room}
use Rattle.desks.proofs.turn.turn_admitted.Goals as goal

pub turn_by_rows-requires : goal.turn_by_rows-requires
turn_by_rows-requires c = turn_room few_points c.requires c.if-n-le-FEW_POINTS.true
    (length-replicate {A = ℕ} ((few_points + 1) * (few_points + 1)) 0)

pub turn_by_rows-requires-2 : goal.turn_by_rows-requires-2
turn_by_rows-requires-2 c = turn_room most_points c.requires
    c.requires.admitted.admitted.intervals.out_lengths.few
    (length-replicate {A = ℕ} (point_places * point_places) 0)
