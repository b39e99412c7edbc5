-- `u32::put` meets its contract: its stores write the number's bytes over the entry. Assumes nothing.
use mathlib.Core.Path.{refl}
use native.Mathlib.Omega.{arith}
use Rattle.endian.proofs.Writing.{stored32}
use Rattle.endian.proofs.bytes.U32Number.put.Goals as goal

pub returns : goal.returns
returns c = stored32 c.requires refl refl refl (omega (arith, c.ranges.number.fits))
