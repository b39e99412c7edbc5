-- `lengths::at_most::each_at_most` meets its contract: what is found so far and the test of what is left are the test
-- of all. Assumes nothing.
use Rattle.endian.specs.Bytes.{whole32}
use Rattle.lengths.proofs.AtMostTests.{Ordering}
use Rattle.lengths.proofs.at_most.each_at_most.Given as goal

abbrev pub invariant-loop-i : goal.invariant-loop-i
invariant-loop-i l = Ordering (whole32 l.low) (whole32 l.high) l.within l.i
