-- `marks::packed::byte_of` meets its contract. Assumes nothing.
use mathlib.Core.Path.{refl}
use Rattle.marks.specs.Packed.{byte_of}
use Rattle.marks.proofs.packed.byte_of.Goals as goal

pub returns : goal.returns
unfolding byte_of
returns c = refl
