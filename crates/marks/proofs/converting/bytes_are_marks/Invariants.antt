-- `marks::converting::bytes_are_marks` meets its contract: what is found so far and the test of what is left are the
-- test of all. Assumes nothing.
use Rattle.lengths.proofs.AtMostTests.{AtMostLoop}
use Rattle.marks.specs.Mark.{pending_mark}
use Rattle.marks.proofs.converting.bytes_are_marks.Given as goal

abbrev pub invariant-loop-byte : goal.invariant-loop-byte
invariant-loop-byte l = AtMostLoop pending_mark l.bytes l.are l.byte-index
