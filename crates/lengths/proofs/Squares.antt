-- Tests on squares: that k(bd + c)² reaches a number. Each grows with d, so the search by halves finds the least d that
-- passes: shown once for all numbers needed, all k, b and c, and then used for each of the rules that round a root.
-- Assumes nothing.
use Prim.Native.Nat.{ℕ, ◌+◌, ◌-◌, ◌*◌, ◌^◌, ◌≤◌}
use mathlib.Core.Path.{◌≡◌, sym, ◌∙◌}
use mathlib.Core.Bool.{Bool, true}
use native.Mathlib.Nat.{mul-le-mul, mul-le-mul_left}
use native.Mathlib.Omega.{arith}
use lib.Dec.{leb}
use borrow.Author.Tests.{leb-true, le-leb}
use Rattle.lengths.specs.Distance.{Growing, Least, bisect}
use Rattle.lengths.proofs.Bisect.{bisect_least}

-- the test asks whether k(bd + c)² reaches what is needed
pub record OnSquares (test : ℕ → Bool) (need k b c : ℕ) : Type 0 where
  pub same : (d : ℕ) → test d ≡ leb need (k * ((b * d + c) * (b * d + c)))

pub square_mono : {x y : ℕ} → x ≤ y → x * x ≤ y * y
square_mono h = mul-le-mul h h

pub scaled_mono : (k b c : ℕ) {d e : ℕ} → d ≤ e → k * ((b * d + c) * (b * d + c)) ≤ k * ((b * e + c) * (b * e + c))
scaled_mono k b c h = mul-le-mul_left k (square_mono (omega (arith, mul-le-mul_left b h)))

pub squares_grow : {test : ℕ → Bool} {need k b c : ℕ} → OnSquares test need k b c → Growing test
squares_grow {test} {need} {k} {b} {c} q d e h t =
    q.same e ∙ le-leb need _ (omega (arith, leb-true need _ (sym (q.same d) ∙ t), scaled_mono k b c h))

-- the least number that passes, if it has so many bits
pub squares_least : {test : ℕ → Bool} {need k b c : ℕ} → OnSquares test need k b c → (bits : ℕ) → test (0 + 2 ^ bits - 1) ≡ true → Least test (bisect test bits 0)
squares_least q bits top = bisect_least (squares_grow q) bits 0 (λ e _. omega arith) top
