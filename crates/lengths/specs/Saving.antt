-- Savings (02, Paper 5): "a signed saving" is what is taken out less what is put in.
use Rattle.std.specs.Prelude.{ℕ, zero, suc, Bool, true, false, ℤ, pos, negsuc}
use Rattle.std.proofs.Math.IntN.{sub_ℕ}
use Rattle.std.specs.Int.{int_min, int_max}

-- the old sum less the new one
abbrev pub saving : (old new : ℕ) → ℤ
saving old new = sub_ℕ old new

-- a saving above 0
unfoldable pub gains? : ℤ → Bool
gains? (pos zero) = false
gains? (pos (suc k)) = true
gains? (negsuc k) = false

-- of two savings
abbrev pub smaller : (a b : ℤ) → ℤ
smaller a b = int_min a b

abbrev pub larger : (a b : ℤ) → ℤ
larger a b = int_max a b
