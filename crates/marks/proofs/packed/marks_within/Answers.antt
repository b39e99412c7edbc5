-- `marks::packed::marks_within` meets its contract: `Testing` holds at the loop's head. Assumes nothing.
use Prim.Native.Nat.{◌<◌}
use mathlib.Core.Path.{◌≡◌}
use mathlib.Core.Logic.{inl, inr}
use native.Mathlib.Omega.{arith}
use Rattle.marks.proofs.PackedTests.{testing_on, testing_done}
use Rattle.marks.proofs.packed.marks_within.Goals as goal
use Rattle.marks.proofs.packed.marks_within.Goals.{then-marks_above-gt0, else-marks_above-gt0}

pub loop-byte-preserved : goal.loop-byte-preserved
loop-byte-preserved c = testing_on c.loop-byte.invariant {A = 0 < c.marks_above.result} {B = c.marks_above.result ≡ 0} c.loop-byte-test.true c.marks_above.ensures (λ a. a) (λ b. b)
    (elim c.if-marks_above-gt0.branch [ then-marks_above-gt0 w ↦ inl (w.if-marks_above-gt0.true, w.within-is) | else-marks_above-gt0 w ↦ inr (omega (arith, w.if-marks_above-gt0.false), w.within-is) ])

pub returns : goal.returns
returns c = testing_done c.loop-byte.invariant c.loop-byte-test.false
