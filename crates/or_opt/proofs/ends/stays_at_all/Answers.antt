-- `or_opt::ends::stays_at_all` meets its contract: the invariant is `Staying`, that w stays where the first i edges
-- are. Assumes nothing.
use Rattle.or_opt.proofs.EndMoves.{staying_start, staying_end, onto_asks, staying_stops, staying_on}
use Rattle.or_opt.proofs.ends.stays_at_all.Goals as goal

pub loop-i-init : goal.loop-i-init
loop-i-init c = staying_start c.requires

pub stays-requires : goal.stays-requires
stays-requires c = onto_asks c.loop-i.invariant c.loop-i-test.true

pub returns-then-not-stays : goal.returns-then-not-stays
returns-then-not-stays c = staying_stops c.loop-i.invariant c.loop-i-test.true c.stays.ensures c.if-not-stays.true

pub loop-i-preserved : goal.loop-i-preserved
loop-i-preserved c = staying_on c.loop-i.invariant c.loop-i-test.true c.stays.ensures c.if-not-stays.false

pub returns : goal.returns
returns c = staying_end c.loop-i.invariant c.loop-i-test.false
