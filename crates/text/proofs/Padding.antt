-- Numbers in columns: how many digits there are, blanks one after another, blanks and digits together, and the value of
-- what is written. Assumes nothing.
use Prim.Native.Nat.{ℕ, zero, suc, max, ◌+◌, ◌-◌, ◌*◌, ◌/◌, ◌%◌, ◌^◌, ◌≤◌, ◌<◌}
use mathlib.Core.Path.{◌≡◌, refl, ◌∙◌, ap}
use mathlib.Core.List.{List, [], ◌∷◌, ◌++◌}
use native.Mathlib.Nat.{pow-suc, one-le-pow}
use native.Mathlib.Omega.{arith}
use lib.ListN.{length, length-append, length-replicate}
use Rattle.text.specs.Words.{Wrote, blank, blanks}
use Rattle.text.specs.Decimal.{digits, decimal, value_from}
use Rattle.text.specs.Columns.{padded}
use Rattle.text.specs.asks.Columns.{PaddedAsked}
use Rattle.text.proofs.Decimals.{decimal_last, decimal_more, decimal_is}
use Rattle.text.proofs.Writing.{wrote_both}

-- a number from a power of ten up to the next has a digit more than the power's exponent
pub digits_by_power : (k n : ℕ) → 10 ^ k ≤ n → n < 10 * 10 ^ k → length (decimal n) ≡ suc k
digits_by_power zero n h g = rw decimal_last refl
digits_by_power (suc k) n h g =
    let e = pow-suc 10 k in
    omega (arith, ap length (decimal_more n (omega (arith, one-le-pow k 10 (omega arith)))), length-append (decimal (n / 10)) ((48 + n % 10) ∷ []), digits_by_power k (n / 10) (omega arith) (omega arith))

-- 0 has as many digits as 1
pub digits_counted : (k n : ℕ) → 10 ^ k ≤ max n 1 → max n 1 < 10 * 10 ^ k → k + 1 ≡ length (decimal n)
unfolding digits decimal
digits_counted zero zero h g = refl
digits_counted (suc k) zero h g = absurd (omega (arith, pow-suc 10 k, one-le-pow k 10 (omega arith)))
digits_counted k (suc n) h g = omega (arith, digits_by_power k (suc n) (omega arith) (omega arith))

-- blanks and digits together
module _ (width n : ℕ) (h : length (decimal n) ≤ width) where
  pub padded-length : length (padded width n) ≡ width
  unfolding padded
  padded-length = omega (arith, length-append (blanks (width - length (decimal n))) (decimal n), length-replicate (width - length (decimal n)) blank)

  -- one column more is a blank in front
  pub padded_wider : padded (suc width) n ≡ blank ∷ padded width n
  unfolding padded
  padded_wider = let e : suc width - length (decimal n) ≡ suc (width - length (decimal n)) = omega arith in rw e

module _ {width n : ℕ} {out : List ℕ} {at : ℕ} (a : PaddedAsked width n out at) where
  module _ {digits : ℕ} (e : digits ≡ length (decimal n)) where
    pub padded_wrote : {mid left : List ℕ} {r s : ℕ} → Wrote out at (blanks (width - digits)) r mid → Wrote mid r (decimal n) s left → Wrote out at (padded width n) s left
    unfolding padded
    padded_wrote w v = wrote_both (rw e at w) v

-- blanks have no value, so a padded number has its own
blanks_value : (k : ℕ) (t : List ℕ) → value_from 0 (blanks k ++ t) ≡ value_from 0 t
unfolding value_from
blanks_value zero t = refl
blanks_value (suc k) t = blanks_value k t

pub padded_value : (width n : ℕ) → value_from 0 (padded width n) ≡ n
unfolding padded
padded_value width n = blanks_value (width - length (decimal n)) (decimal n) ∙ (decimal_is n).value
