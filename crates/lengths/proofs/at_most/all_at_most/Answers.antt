-- `lengths::at_most::all_at_most` meets its contract: what is found so far and the test of what is left are the test of
-- all. Assumes nothing.
use Prim.Native.Nat.{◌<◌, ◌≤◌}
use mathlib.Core.Logic.{inl, inr}
use native.Mathlib.Omega.{arith}
use Rattle.lengths.proofs.AtMostTests.{at_most_on, at_most_done}
use Rattle.lengths.proofs.at_most.all_at_most.Goals as goal
use Rattle.lengths.proofs.at_most.all_at_most.Goals.{then-limit-number, else-limit-number}

pub loop-i-preserved : goal.loop-i-preserved
loop-i-preserved c = at_most_on c.loop-i.invariant {A = c.args.limit < c.number.result} {B = c.number.result ≤ c.args.limit} (omega (arith, c.count_of-i-end.ensures, c.loop-i-test.true)) c.number.ensures (λ a. a) (λ b. b)
    (elim c.if-limit-number.branch [ then-limit-number w ↦ inl (w.if-limit-number.true, w.within-is) | else-limit-number w ↦ inr (w.if-limit-number.false, w.within-is) ])

pub returns : goal.returns
returns c = at_most_done c.loop-i.invariant (omega (arith, c.count_of-i-end.ensures, c.loop-i-test.false))
