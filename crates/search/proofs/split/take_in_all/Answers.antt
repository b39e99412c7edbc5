-- `search::split::take_in_all` meets its contract: the invariant is `Taking`, that the legs and the bound are those of
-- the first i edges. Assumes nothing.
use Rattle.rules.proofs.LegLoops.{open_start}
use Rattle.search.proofs.Preparing.{take_open, take_start, take_edge, take_on, take_end}
use Rattle.search.proofs.split.take_in_all.Goals as goal

pub loop-i-init : goal.loop-i-init
loop-i-init c = take_start c.requires.split_asked c.row_start-at.ensures c.open_legs.ensures

pub open_legs-requires : goal.open_legs-requires
open_legs-requires c = open_start c.requires.legs_value (take_open c.requires.split_asked c.row_start-at.ensures)

pub take_in-bound-requires : goal.take_in-bound-requires
take_in-bound-requires c = take_edge c.loop-i.invariant c.loop-i-test.true

pub loop-i-preserved : goal.loop-i-preserved
loop-i-preserved c = take_on c.loop-i.invariant c.loop-i-test.true c.take_in-bound.ensures

pub returns : goal.returns
returns c = take_end c.loop-i.invariant c.loop-i-test.false
