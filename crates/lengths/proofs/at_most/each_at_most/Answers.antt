-- `lengths::at_most::each_at_most` meets its contract: what is found so far and the test of what is left are the test
-- of all. Assumes nothing.
use native.Mathlib.Omega.{arith}
use Rattle.lengths.proofs.AtMostTests.{ordering_on, ordering_done}
use Rattle.lengths.proofs.at_most.each_at_most.Goals as goal

pub loop-i-preserved : goal.loop-i-preserved
loop-i-preserved c =
    ordering_on c.loop-i.invariant c.requires (omega (arith, c.count_of-i-end.ensures, c.loop-i-test.true)) c.number.ensures c.number-in-loop-i.ensures

pub returns : goal.returns
returns c = ordering_done c.loop-i.invariant (omega (arith, c.count_of-i-end.ensures, c.loop-i-test.false))
