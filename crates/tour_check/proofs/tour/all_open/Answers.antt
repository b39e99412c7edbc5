-- `tour_check::tour::all_open` meets its contract: `CheckingOpen` holds at the loop's head. Assumes nothing.
use native.Mathlib.Omega.{arith}
use Rattle.tour_check.proofs.TourLoops.{first_there, tour_size, marked_on, marked_end, checking_start, struck_on, checking_on, all_opened}
use Rattle.tour_check.proofs.tour.all_open.Goals as goal

pub number-first-requires : goal.number-first-requires
number-first-requires c = first_there c.requires

pub loop-i-init : goal.loop-i-init
loop-i-init c = checking_start c.requires c.number-first.ensures

pub number-to-requires : goal.number-to-requires
number-to-requires c = omega (arith, tour_size c.requires, c.loop-i-test.true)

pub is_open-requires : goal.is_open-requires
is_open-requires c = marked_on c.requires c.loop-i.invariant.preceding (omega (arith, tour_size c.requires, c.loop-i-test.true)) c.number-to.ensures

pub returns-then-not-is_open : goal.returns-then-not-is_open
returns-then-not-is_open c = struck_on c.requires c.loop-i.invariant (omega (arith, tour_size c.requires, c.loop-i-test.true)) c.number-to.ensures c.is_open.ensures c.if-not-is_open.true

pub loop-i-preserved : goal.loop-i-preserved
loop-i-preserved c = checking_on c.requires c.loop-i.invariant (omega (arith, tour_size c.requires, c.loop-i-test.true)) c.number-to.ensures c.is_open.ensures c.if-not-is_open.false

pub is_open-requires-2 : goal.is_open-requires-2
is_open-requires-2 c = marked_end c.requires c.loop-i.invariant.preceding (omega (arith, tour_size c.requires, c.loop-i-test.false)) c.number-first.ensures

pub returns : goal.returns
returns c = all_opened c.requires c.loop-i.invariant (omega (arith, tour_size c.requires, c.loop-i-test.false)) c.number-first.ensures c.is_open-2.ensures
