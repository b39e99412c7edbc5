-- `reasons::judging::judge_record` meets its contract: either array has room for the rows. Assumes nothing.
use Prim.Native.Nat.{ℕ, ◌+◌, ◌*◌}
use lib.ListN.{length-replicate}
use Rattle.lengths.specs.Instance.{few_points, most_points, point_places}
use Rattle.reasons.proofs.TellAnswers.{judge_room}
use Rattle.reasons.proofs.judging.judge_record.Goals as goal

pub judge_by_rows-requires : goal.judge_by_rows-requires
judge_by_rows-requires c =
    judge_room few_points c.requires c.if-n-le-FEW_POINTS.true (length-replicate {A =
    ℕ} ((few_points + 1) * (few_points + 1)) 0)

pub judge_by_rows-requires-2 : goal.judge_by_rows-requires-2
judge_by_rows-requires-2 c =
    let p = c.requires in
    judge_room most_points p p.admitted.intervals.out_lengths.few (length-replicate {A = ℕ} (point_places * point_places) 0)
