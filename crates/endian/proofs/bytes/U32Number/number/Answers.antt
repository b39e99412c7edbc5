-- `u32::number` meets its contract: the entry's bytes are among the bytes, and make up the number.
-- Assumes nothing.
use native.Mathlib.Omega.{arith}
use Rattle.endian.proofs.Reading.{inside32, entry32}
use Rattle.endian.proofs.bytes.U32Number.number.Goals as goal

pub overflow_mul-start : goal.overflow_mul-start
overflow_mul-start c = omega (arith, inside32 _ _ c.requires)

pub bounds-bytes-start : goal.bounds-bytes-start
bounds-bytes-start c = omega (arith, inside32 _ _ c.requires)

pub overflow_add-start : goal.overflow_add-start
overflow_add-start c = omega (arith, inside32 _ _ c.requires)

pub bounds-bytes-start-2 : goal.bounds-bytes-start-2
bounds-bytes-start-2 c = omega (arith, inside32 _ _ c.requires)

pub overflow_add-start-2 : goal.overflow_add-start-2
overflow_add-start-2 c = omega (arith, inside32 _ _ c.requires)

pub bounds-bytes-start-3 : goal.bounds-bytes-start-3
bounds-bytes-start-3 c = omega (arith, inside32 _ _ c.requires)

pub overflow_add-start-3 : goal.overflow_add-start-3
overflow_add-start-3 c = omega (arith, inside32 _ _ c.requires)

pub bounds-bytes-start-4 : goal.bounds-bytes-start-4
bounds-bytes-start-4 c = omega (arith, inside32 _ _ c.requires)

pub returns : goal.returns
returns c = entry32 _ _ c.requires c.from.ensures c.from-2.ensures c.from-3.ensures c.from-4.ensures
