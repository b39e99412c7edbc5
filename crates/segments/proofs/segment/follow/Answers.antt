-- `segments::segment::follow` meets its contract. The invariant: what is found from `at` on, with the points passed, is
-- what is found over a. Assumes nothing.
use mathlib.Core.Path.{sym, ◌∙◌}
use Rattle.segments.proofs.Following.{followed_start, found_here, found_end, found_back, found_none, found_on}
use Rattle.segments.proofs.segment.follow.Goals as goal

pub loop-init : goal.loop-init
loop-init c = followed_start _ _ _ _ _ c.none-order.ensures c.requires

pub returns-then-at-v : goal.returns-then-at-v
returns-then-at-v c = found_here c.loop.invariant c.loop-test.true c.if-at-v.true

pub returns-then-at-u : goal.returns-then-at-u
returns-then-at-u c = found_back c.loop.invariant c.loop-test.true c.if-at-v.false c.if-at-u.true

pub returns-in_default : goal.returns-in_default
returns-in_default c =
    found_none c.loop.invariant c.loop-test.true c.if-at-v.false c.if-at-u.false c.onward.result (sym c.onward.ensures) c.in_default.not-On

pub loop-preserved : goal.loop-preserved
loop-preserved c =
    found_on c.loop.invariant c.loop-test.true c.if-at-v.false c.if-at-u.false _ (sym c.onward.ensures ∙ c.in-On.is) c.then-order.ensures

pub returns : goal.returns
returns c = found_end c.loop.invariant c.loop-test.false
