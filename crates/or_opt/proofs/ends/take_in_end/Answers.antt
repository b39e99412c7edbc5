-- `or_opt::ends::take_in_end` meets its contract: each way out has its lemma in `EndMoves`. Assumes nothing.
use Rattle.or_opt.proofs.EndMoves.{leg_joined, leg_far, leg_stays, leg_lost}
use Rattle.or_opt.proofs.ends.take_in_end.Goals as goal
use Rattle.or_opt.proofs.ends.take_in_end.Goals.{else-q-c-via-then-q-c+then-legs-x-ne-FAR+else-not-end_stays, else-q-c-via-then-q-c+else-legs-x-ne-FAR, else-q-c-via-else-q-c}

pub returns-then-not-end_stays : goal.returns-then-not-end_stays
returns-then-not-end_stays c = leg_lost c.requires c.end_stays.ensures c.if-q-c.true c.if-not-end_stays.true

pub returns-else-q-c : goal.returns-else-q-c
returns-else-q-c c = elim c.else-q-c.branch [
  | else-q-c-via-then-q-c+then-legs-x-ne-FAR+else-not-end_stays w ↦ leg_stays c.requires w.end_stays.ensures w.if-not-end_stays.false
  | else-q-c-via-then-q-c+else-legs-x-ne-FAR w ↦ leg_far c.requires w.if-legs-x-ne-FAR.false
  | else-q-c-via-else-q-c w ↦ leg_joined c.requires w.if-q-c.false
]
