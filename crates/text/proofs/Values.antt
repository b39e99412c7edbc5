-- The loop over columns: the value of those that are passed, and its bound whatever bytes they are. Assumes nothing.
use Prim.Native.Nat.{ℕ, ◌+◌, ◌-◌, ◌*◌, ◌^◌, ◌≤◌, ◌<◌}
use mathlib.Core.Path.{◌≡◌, refl, ◌∙◌, ap}
use mathlib.Core.List.{List}
use native.Mathlib.Nat.{pow-suc, pow-le-pow_right}
use native.Mathlib.Numerals.{add-one}
use native.Mathlib.Omega.{arith}
use lib.ListN.{length, get_or, take}
use lib.Seq.{take-suc}
use Rattle.text.specs.Decimal.{value_from}
use Rattle.text.specs.asks.Columns.{most_columns}
use Rattle.text.proofs.Decimals.{value_append}

-- a digit is at most 207, so the value of i columns is at most 23 * 10 ^ i - 23
pub record Valuing (columns : List ℕ) (value i : ℕ) : Type 0 where
  pub inside : i ≤ length columns
  pub is : value ≡ value_from 0 (take i columns)
  pub small : value + 23 ≤ 23 * 10 ^ i

pub value_start : (columns : List ℕ) → Valuing columns 0 0
unfolding value_from
value_start columns = record { inside = omega arith; is = refl; small = omega arith }

module _ {columns : List ℕ} {value i : ℕ} (v : Valuing columns value i) where
  pub value_few : length columns ≤ most_columns → i < length columns → value ≤ 23000000
  value_few m h = let few : 10 ^ i ≤ 10 ^ 6 = pow-le-pow_right {n = 10} (omega arith) {i = i} {j = 6} (omega arith) in omega (arith, v.small)

  pub value_on : {d : ℕ} → i < length columns → d ≡ get_or columns i 0 - 48 → d ≤ 207 → Valuing columns (10 * value + d) (i + 1)
  value_on {d} h is small = record {
    inside = omega arith;
    is = omega (arith, v.is, value_append 0 (take i columns) (get_or columns i 0), ap (value_from 0) (ap (λ (k : ℕ). take k columns) (add-one i) ∙ take-suc columns i 0 h));
    small = omega (arith, v.small, ap (λ (k : ℕ). 10 ^ k) (add-one i), pow-suc 10 i);
  }
