-- `marks::packed::marks_within` meets its contract: `Testing` holds at the loop's head. Assumes nothing.
use Rattle.marks.proofs.PackedTests.{Testing}
use Rattle.marks.proofs.packed.marks_within.Given as goal

abbrev pub invariant-loop-byte : goal.invariant-loop-byte
invariant-loop-byte l = Testing l.most l.set l.within l.byte-index
