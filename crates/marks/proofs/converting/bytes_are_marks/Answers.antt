-- `marks::converting::bytes_are_marks` meets its contract: what is found so far and the test of what is left are the
-- test of all. Assumes nothing.
use Prim.Native.Nat.{◌<◌, ◌≤◌}
use lib.ListN.{get_or}
use mathlib.Core.Logic.{inl, inr}
use Rattle.marks.specs.Mark.{pending_mark}
use native.Mathlib.Omega.{arith}
use mathlib.Core.Path.{refl}
use Rattle.lengths.proofs.AtMostTests.{at_most_on, at_most_done}
use Rattle.marks.proofs.converting.bytes_are_marks.Goals as goal
use Rattle.marks.proofs.converting.bytes_are_marks.Goals.{then-byte-gt-PENDING, else-byte-gt-PENDING}

pub loop-byte-preserved : goal.loop-byte-preserved
loop-byte-preserved c = at_most_on c.loop-byte.invariant {A = pending_mark < get_or c.args.bytes.now c.loop-byte.byte-index 0} {B = get_or c.args.bytes.now c.loop-byte.byte-index 0 ≤ pending_mark} c.loop-byte-test.true refl (λ a. a) (λ b. b)
    (elim c.if-byte-gt-PENDING.branch [ then-byte-gt-PENDING w ↦ inl (omega (arith, w.if-byte-gt-PENDING.true), w.are-is) | else-byte-gt-PENDING w ↦ inr (omega (arith, w.if-byte-gt-PENDING.false), w.are-is) ])

pub returns : goal.returns
returns c = at_most_done c.loop-byte.invariant c.loop-byte-test.false
