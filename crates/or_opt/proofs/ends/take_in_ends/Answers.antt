-- `or_opt::ends::take_in_ends` meets its contract: the invariant is `Ending`, that the points of the first i edges are
-- taken in. Assumes nothing.
use Rattle.or_opt.proofs.EndMoves.{ending_start, ending_first, ending_second, ending_on, ending_end}
use Rattle.or_opt.proofs.ends.take_in_ends.Goals as goal

pub loop-i-init : goal.loop-i-init
loop-i-init c = ending_start c.requires

pub take_in_end-requires : goal.take_in_end-requires
take_in_end-requires c = ending_first c.loop-i.invariant c.loop-i-test.true

pub loop-i-preserved : goal.loop-i-preserved
loop-i-preserved c = ending_on c.loop-i.invariant c.loop-i-test.true c.take_in_end.ensures c.take_in_end-in-loop-i.ensures

pub take_in_end-requires-in-loop-i : goal.take_in_end-requires-in-loop-i
take_in_end-requires-in-loop-i c = ending_second c.loop-i.invariant c.loop-i-test.true c.take_in_end.ensures

pub returns : goal.returns
returns c = ending_end c.loop-i.invariant c.loop-i-test.false
