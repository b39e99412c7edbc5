-- `endian::bytes::encode16` meets its contract: `Encoding` holds at the loop's head. Assumes nothing.
use mathlib.Core.Path.{refl}
use native.Mathlib.Omega.{arith}
use Rattle.endian.proofs.Writing.{encoding_start, encoding_on, all_encoded}
use Rattle.endian.proofs.bytes.encode16.Goals as goal

pub loop-i-init : goal.loop-i-init
loop-i-init c = encoding_start c.requires

pub put-requires : goal.put-requires
put-requires c = record { inside = omega (arith, c.loop-i.invariant, c.loop-i-test.true) }

pub loop-i-preserved : goal.loop-i-preserved
loop-i-preserved c = encoding_on c.loop-i.invariant c.loop-i-test.true refl c.put.ensures

pub returns : goal.returns
returns c = all_encoded c.loop-i.invariant c.loop-i-test.false
