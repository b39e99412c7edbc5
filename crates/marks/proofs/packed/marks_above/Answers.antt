-- `marks::packed::marks_above` meets its contract: by `above`. Assumes nothing.
use native.Mathlib.Omega.{arith}
use Rattle.marks.proofs.PackedBytes.{above}
use Rattle.marks.proofs.packed.marks_above.Goals as goal

pub returns : goal.returns
returns c = above c.requires (omega (arith, c.ranges.byte))
