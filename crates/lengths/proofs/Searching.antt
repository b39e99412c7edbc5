-- The loop of `by_halving`: the least number that passes is one of `low` to `high`, and each half keeps it.
-- Assumes nothing.
use Prim.Native.Nat.{ℕ, ◌+◌, ◌/◌, ◌^◌, ◌≤◌, ◌<◌}
use mathlib.Core.Path.{◌≡◌, subst}
use mathlib.Core.Bool.{true, false}
use native.Mathlib.Omega.{arith}
use Rattle.lengths.specs.declared.distance.Root.{Root}
use Rattle.lengths.specs.Distance.{passes, distance_by}
use Rattle.lengths.specs.Instance.{most_squares}
use Rattle.lengths.specs.asks.Distance.{Distance}
use Rattle.lengths.proofs.Bisect.{bisect_below, fails_below, least_unique}
use Rattle.lengths.proofs.Distances.{passes_grow, distance_least}

-- all below `low` fails, and `high` passes
pub record Searching (root : Root) (s low high : ℕ) : Type 0 where
  pub sum : s ≤ most_squares
  pub order : low ≤ high
  pub bits : high < 2 ^ 21
  pub below : (e : ℕ) → passes root s e ≡ true → low ≤ e
  pub passed : passes root s high ≡ true

pub start : (root : Root) {s : ℕ} → s ≤ most_squares → Searching root s 0 2097151
unfolding distance_by
start root {s} h = record {
  sum = h;
  order = omega arith;
  bits = omega arith;
  below = λ e _. omega arith;
  passed = passes_grow root s (distance_by root s) 2097151 (omega (arith, bisect_below (passes root s) 21 0)) (distance_least root s h).passed;
}

module _ {root : Root} {s low high : ℕ} (at : Searching root s low high) (h : low < high) where
  pub lower : passes root s ((low + high) / 2) ≡ true → Searching root s low ((low + high) / 2)
  lower t = record { sum = at.sum; order = omega arith; bits = omega (arith, at.bits); below = at.below; passed = t }

  pub upper : passes root s ((low + high) / 2) ≡ false → Searching root s ((low + high) / 2 + 1) high
  upper t = record {
    sum = at.sum;
    order = omega arith;
    bits = at.bits;
    below = λ e p. omega (arith, fails_below (passes_grow root s) ((low + high) / 2) e t p);
    passed = at.passed;
  }

-- where one number is left, it is the least
pub found : {root : Root} {s low high : ℕ} → Searching root s low high → high ≤ low → Distance root s low
found {root} {s} {low} {high} at h =
    let e : high ≡ low = omega (arith, at.order) in
    record {
      at = least_unique {test = passes root s} (record { passed = subst (λ (d : ℕ). passes root s d ≡ true) e at.passed; least = at.below }) (distance_least root s at.sum);
      bits = omega (arith, at.bits);
    }
