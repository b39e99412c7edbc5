-- Savings are small, so that a number that a function answers is read again as it is. Assumes nothing.
use Prim.Native.Nat.{ℕ, suc, ◌-◌, ◌^◌, ◌<◌}
use mathlib.Core.Path.{◌≡◌}
use mathlib.Core.Bool.{Bool, true, false, cond}
use native.Mathlib.Omega.{arith}
use lib.Dec.{ltb}
use lib.IntN.{ℤ, pos, negsuc}
use mir.Syntax.{w64}
use mir.Val.{to_z, of_z}
use mir.Facts.{to_z-of_z}
use lib.Signed.{mag, lt_z}
use Rattle.lengths.specs.Saving.{saving, smaller, larger}

-- the saving is no larger than either sum
pub saving_small : (old new : ℕ) → old < 2 ^ 40 → new < 2 ^ 40 → mag (saving old new) < 2 ^ 40
saving_small old new h g = by (ltb old new)
  where
    by : (t : Bool) → mag (cond t (negsuc (new - suc old)) (pos (old - new))) < 2 ^ 40
    by true = omega arith
    by false = omega arith

one_small : (t : Bool) (a b : ℤ) {k : ℕ} → mag a < k → mag b < k → mag (cond t a b) < k
one_small true a b h g = h
one_small false a b h g = g

pub smaller_small : (a b : ℤ) {k : ℕ} → mag a < k → mag b < k → mag (smaller a b) < k
smaller_small a b h g = one_small (lt_z b a) b a g h

pub larger_small : (a b : ℤ) {k : ℕ} → mag a < k → mag b < k → mag (larger a b) < k
larger_small a b h g = one_small (lt_z b a) a b h g

-- a number that a function answers, read again
pub kept : {z : ℤ} → mag z < 2 ^ 63 → to_z w64 (of_z w64 z) ≡ z
kept h = to_z-of_z {w = w64} (record { sfits = h })
