-- `marks::converting::pack_all` meets its contract: at the loop's head the first k bytes are those of the packed set.
-- Assumes nothing.
use Rattle.marks.specs.asks.Converting.{byte_at}
use Rattle.marks.proofs.Packing.{Filling}
use Rattle.marks.proofs.converting.pack_all.Given as goal

abbrev pub invariant-loop-k : goal.invariant-loop-k
invariant-loop-k l = Filling (byte_at l.bytes) l.initial.set l.set l.k
