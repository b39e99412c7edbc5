-- `or_opt::degree_two::take_in_shared` meets its contract: the four tests of `apart?`, one after the other. Assumes
-- nothing.
use Rattle.or_opt.proofs.PointLegs.{meets_pu, meets_pv, meets_qu, meets_qv, two_told}
use Rattle.or_opt.proofs.degree_two.take_in_shared.Goals as goal

pub meet-requires : goal.meet-requires
meet-requires c = meets_pu c.requires

pub meet-requires-2 : goal.meet-requires-2
meet-requires-2 c = meets_pv c.requires c.meet.ensures

pub meet-requires-3 : goal.meet-requires-3
meet-requires-3 c = meets_qu c.requires c.meet.ensures c.meet-2.ensures

pub meet-requires-4 : goal.meet-requires-4
meet-requires-4 c = meets_qv c.requires c.meet.ensures c.meet-2.ensures c.meet-3.ensures

pub returns : goal.returns
returns c = two_told c.requires c.meet.ensures c.meet-2.ensures c.meet-3.ensures c.meet-4.ensures
