-- Products of bounded numbers fit 64 bits. Assumes nothing.
use Prim.Native.Nat.{ℕ, ◌+◌, ◌*◌, ◌/◌, ◌^◌, ◌≤◌, ◌<◌}
use native.Mathlib.Nat.{mul-le-mul, lt_of_le_of_lt}
use native.Mathlib.Omega.{arith}
use lib.Dec.{T, ltb, ltb→lt}
use mir.Val.{Fits}
use mir.Syntax.{w64}

-- the bounds are numerals, and antt computes the last argument
pub product_fits : {a b : ℕ} (m k : ℕ) → a ≤ m → b ≤ k → T (ltb (m * k) (2 ^ 64)) → Fits w64 (a * b)
product_fits m k h g t = record { fits = lt_of_le_of_lt (mul-le-mul h g) (ltb→lt (m * k) (2 ^ 64) t) }

-- half of such a product, and a number more
pub half_fits : {a b c : ℕ} (m k : ℕ) → a ≤ m → b ≤ k → c < 2 ^ 63 → T (ltb (m * k) (2 ^ 64)) → Fits w64 (a * b / 2 + c)
half_fits m k h g l t = record { fits = omega (arith, (product_fits m k h g t).fits) }
