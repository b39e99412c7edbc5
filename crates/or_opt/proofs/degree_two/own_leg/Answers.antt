-- `or_opt::degree_two::own_leg` meets its contract: each way out is a case of the condition. Assumes nothing.
use Rattle.or_opt.proofs.PointLegs.{own_first, own_second, own_third}
use Rattle.or_opt.proofs.degree_two.own_leg.Goals as goal
use Rattle.or_opt.proofs.degree_two.own_leg.Goals.{then-s-c-via-then-s-c, then-s-c-via-else-s-c+then-t-c}

pub returns-then-s-c : goal.returns-then-s-c
returns-then-s-c c = elim c.then-s-c.branch [
  | then-s-c-via-then-s-c w ↦ own_first _ _ _ _ w.if-s-c.true
  | then-s-c-via-else-s-c+then-t-c w ↦ own_second _ _ _ _ w.if-t-c.true
]

pub returns : goal.returns
returns c = own_third _ _ _ _ c.if-s-c.false c.if-t-c.false
