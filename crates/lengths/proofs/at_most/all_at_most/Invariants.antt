-- `lengths::at_most::all_at_most` meets its contract: what is found so far and the test of what is left are the test of
-- all. Assumes nothing.
use Rattle.endian.specs.Bytes.{whole32}
use Rattle.lengths.proofs.AtMostTests.{AtMostLoop}
use Rattle.lengths.proofs.at_most.all_at_most.Given as goal

abbrev pub invariant-loop-i : goal.invariant-loop-i
invariant-loop-i l = AtMostLoop l.limit (whole32 l.bytes) l.within l.i
