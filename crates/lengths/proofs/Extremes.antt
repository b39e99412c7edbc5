-- The larger of two savings is at least both and is one of them, the smaller is at most both and is one of them: so
-- each is the one number that is so, whichever of the two comes first. Assumes nothing.
use mathlib.Core.Path.{◌≡◌, refl}
use mathlib.Core.Logic.{◌⊎◌, inl, inr}
use native.Mathlib.Omega.{arith}
use lib.IntN.{ℤ}
use lib.Signed.{lt_z, ◌≤ℤ◌}
use Rattle.std.proofs.lemmas.Bool.{cases_cond}
use Rattle.std.proofs.lemmas.Int.{ints, clamps}
use Rattle.lengths.specs.Saving.{smaller, larger}

-- THE LARGER of two savings is at least both, and one of them
pub larger_is : (a b : ℤ) → (a ≤ℤ larger a b) × (b ≤ℤ larger a b) × ((larger a b ≡ a) ⊎ (larger a b ≡ b))
larger_is a b = (omega (arith, ints, clamps), omega (arith, ints, clamps), cases_cond (lt_z b a) a b _ refl)

-- THE SMALLER of two savings is at most both, and one of them
pub smaller_is : (a b : ℤ) → (smaller a b ≤ℤ a) × (smaller a b ≤ℤ b) × ((smaller a b ≡ a) ⊎ (smaller a b ≡ b))
smaller_is a b = (omega (arith, ints, clamps), omega (arith, ints, clamps), elim (cases_cond (lt_z b a) b a _ refl) [ inl e ↦ inr e | inr e ↦ inl e ])

-- what is at least both is at least the larger, what is at most both at most the smaller
pub larger_least : {a b m : ℤ} → a ≤ℤ m → b ≤ℤ m → larger a b ≤ℤ m
larger_least h k = omega (arith, ints, clamps)

pub smaller_most : {a b m : ℤ} → m ≤ℤ a → m ≤ℤ b → m ≤ℤ smaller a b
smaller_most h k = omega (arith, ints, clamps)

-- the order of the two is no matter, nor that of three
pub larger_turned : (a b : ℤ) → larger a b ≡ larger b a
larger_turned a b = omega (arith, ints, clamps)

pub smaller_turned : (a b : ℤ) → smaller a b ≡ smaller b a
smaller_turned a b = omega (arith, ints, clamps)

pub larger_three : (a b c : ℤ) → larger a (larger b c) ≡ larger b (larger a c)
larger_three a b c = omega (arith, ints, clamps)
