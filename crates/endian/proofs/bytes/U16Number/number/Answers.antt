-- `u16::number` meets its contract: the entry's bytes are among the bytes, and make up the number.
-- Assumes nothing.
use native.Mathlib.Omega.{arith}
use Rattle.endian.proofs.Reading.{inside16, entry16}
use Rattle.endian.proofs.bytes.U16Number.number.Goals as goal

pub overflow_mul-start : goal.overflow_mul-start
overflow_mul-start c = omega (arith, inside16 _ _ c.requires)

pub bounds-bytes-start : goal.bounds-bytes-start
bounds-bytes-start c = omega (arith, inside16 _ _ c.requires)

pub overflow_add-start : goal.overflow_add-start
overflow_add-start c = omega (arith, inside16 _ _ c.requires)

pub bounds-bytes-start-2 : goal.bounds-bytes-start-2
bounds-bytes-start-2 c = omega (arith, inside16 _ _ c.requires)

pub returns : goal.returns
returns c = entry16 _ _ c.requires c.from.ensures c.from-2.ensures
