-- `or_opt::degree_two::take_in_points` meets its contract: the invariant is `TakingIn`, that the first i edges are
-- taken in. Assumes nothing.
use Rattle.or_opt.proofs.PointLegs.{taking_start, taking_asks, taking_on, taking_again, taking_end}
use Rattle.sets.specs.asks.Stored.{edge_list}
use Rattle.or_opt.proofs.degree_two.take_in_points.Goals as goal
use Rattle.or_opt.proofs.degree_two.take_in_points.Goals.{then-not-has, else-not-has}

pub loop-i-init : goal.loop-i-init
loop-i-init c = taking_start c.requires

pub take_in_with-requires : goal.take_in_with-requires
take_in_with-requires c = taking_asks c.loop-i.invariant c.loop-i-test.true

pub loop-i-preserved : goal.loop-i-preserved
unfolding edge_list
loop-i-preserved c = elim c.if-not-has.branch [
  | then-not-has w ↦ taking_on c.loop-i.invariant c.loop-i-test.true w.take_in_with.ensures w.legs-is
  | else-not-has w ↦ taking_again c.loop-i.invariant c.loop-i-test.true c.has.ensures w.if-not-has.false w.legs-is
]

pub returns : goal.returns
returns c = taking_end c.loop-i.invariant c.loop-i-test.false
