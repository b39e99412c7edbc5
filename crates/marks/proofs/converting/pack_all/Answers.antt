-- `marks::converting::pack_all` meets its contract: at the loop's head the first k bytes are those of the packed set.
-- Assumes nothing.
use native.Mathlib.Omega.{arith}
use Rattle.marks.specs.Packed.{packed_bytes}
use Rattle.marks.proofs.Packing.{all_packed}
use Rattle.marks.proofs.converting.pack_all.Goals as goal

pub packed_byte-requires : goal.packed_byte-requires
unfolding packed_bytes
packed_byte-requires c = let a = c.requires in record { marks = a.marks; inside = omega (arith, a.room, c.loop-k.invariant.kept, c.loop-k-test.true) }

pub returns : goal.returns
returns c = all_packed _ c.loop-k.invariant c.requires.room c.loop-k-test.false
