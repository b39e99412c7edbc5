-- `marks::pending::resolve_all` meets its contract: at the loop's head the first i bytes are resolved, the others as
-- they were. Assumes nothing.
use Rattle.marks.proofs.Resolving.{Resolving}
use Rattle.marks.proofs.pending.resolve_all.Given as goal

abbrev pub invariant-loop-byte : goal.invariant-loop-byte
invariant-loop-byte l = Resolving l.to l.initial.set l.set l.byte-index
