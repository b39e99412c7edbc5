-- `u16::put` meets its contract: its stores write the number's bytes over the entry. Assumes nothing.
use mathlib.Core.Path.{refl}
use native.Mathlib.Omega.{arith}
use Rattle.endian.proofs.Writing.{stored16}
use Rattle.endian.proofs.bytes.U16Number.put.Goals as goal

pub returns : goal.returns
returns c = stored16 c.requires refl (omega (arith, c.ranges.number.fits))
