-- `or_opt::degree_two::meet` meets its contract: each way out has its lemma in `PointLegs`. Assumes nothing.
use Rattle.or_opt.proofs.PointLegs.{met_apart, met_same, met_centre, met_moved}
use Rattle.or_opt.proofs.degree_two.meet.Goals as goal
use Rattle.or_opt.proofs.degree_two.meet.Goals.{else-w-z-via-then-w-z+then-s-t+else-w-c, else-w-z-via-then-w-z+else-s-t, else-w-z-via-else-w-z}

pub returns-then-w-c : goal.returns-then-w-c
returns-then-w-c c = met_moved _ c.requires c.if-w-z.true c.if-s-t.true c.if-w-c.true c.move_between.ensures

pub returns-else-w-z : goal.returns-else-w-z
returns-else-w-z c = elim c.else-w-z.branch [
  | else-w-z-via-then-w-z+then-s-t+else-w-c w ↦ met_centre _ c.requires w.if-w-c.false
  | else-w-z-via-then-w-z+else-s-t w ↦ met_same _ c.requires w.if-s-t.false
  | else-w-z-via-else-w-z w ↦ met_apart _ c.requires w.if-w-z.false
]
