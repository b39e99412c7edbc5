-- `or_opt::degree_two::take_in_with` meets its contract: the invariant is `Pairing`, that edge i is taken in with the
-- first j edges. Assumes nothing.
use Rattle.or_opt.proofs.PointLegs.{pairing_start, pairing_asks, pairing_on, pairing_end}
use Rattle.or_opt.proofs.degree_two.take_in_with.Goals as goal

pub loop-j-init : goal.loop-j-init
loop-j-init c = pairing_start c.requires

pub take_in_shared-requires : goal.take_in_shared-requires
take_in_shared-requires c = pairing_asks c.loop-j.invariant c.loop-j-test.true

pub loop-j-preserved : goal.loop-j-preserved
loop-j-preserved c = pairing_on c.loop-j.invariant c.loop-j-test.true c.take_in_shared.ensures

pub returns : goal.returns
returns c = pairing_end c.loop-j.invariant c.loop-j-test.false
