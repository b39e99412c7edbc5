-- `endian::bytes::encode16` meets its contract: `Encoding` holds at the loop's head. Assumes nothing.
use Rattle.endian.specs.asks.Bytes.{Encoding}
use Rattle.endian.proofs.bytes.encode16.Given as goal

abbrev pub invariant-loop-i : goal.invariant-loop-i
invariant-loop-i l = Encoding 2 l.numbers l.initial.bytes l.bytes l.i
