-- `marks::packed::quarter` meets its contract. Assumes nothing.
use mathlib.Core.Path.{refl}
use Rattle.marks.specs.Packed.{quarter}
use Rattle.marks.proofs.packed.quarter.Goals as goal

pub returns : goal.returns
unfolding quarter
returns c = refl
