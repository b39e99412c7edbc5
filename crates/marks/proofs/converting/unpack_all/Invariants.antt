-- `marks::converting::unpack_all` meets its contract: at the loop's head the first i marks are those of the set.
-- Assumes nothing.
use Prim.Native.Nat.{ℕ}
use lib.ListN.{get_or}
use Rattle.marks.specs.Packed.{quarters}
use Rattle.marks.proofs.Packing.{Filling}
use Rattle.marks.proofs.converting.unpack_all.Given as goal

abbrev pub invariant-loop-i : goal.invariant-loop-i
invariant-loop-i l = Filling (λ (j : ℕ). get_or (quarters l.set) j 0) l.initial.bytes l.bytes l.i
