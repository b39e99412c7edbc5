-- A close guess: one below it fails and one above it passes, so the least number that passes is the guess or one above
-- it. Assumes nothing.
use Prim.Native.Nat.{ℕ, ◌+◌, ◌-◌, ◌≤◌}
use mathlib.Core.Path.{◌≡◌, refl, subst}
use mathlib.Core.Bool.{Bool, true, false, not}
use native.Mathlib.Omega.{arith}
use mir.Val.{bool_byte}
use Rattle.lengths.specs.declared.distance.Root.{Root}
use Rattle.lengths.specs.Distance.{Growing, Least, passes}
use Rattle.lengths.specs.asks.Distance.{step_from, Close, Distance}
use Rattle.lengths.proofs.Bisect.{least_after, least_unique}
use Rattle.lengths.proofs.Distances.{passes_grow, distance_least}
use Rattle.lengths.specs.Instance.{most_squares}

-- the code's number of a test that fails
pub failing : {r : Bool} (t : Bool) → r ≡ t → bool_byte (not r) ≡ step_from t
unfolding step_from
failing true h = rw h
failing false h = rw h

pub step_small : {r : ℕ} (t : Bool) → r ≡ step_from t → r ≤ 1
unfolding step_from
step_small true h = omega arith
step_small false h = omega arith

stepped : {test : ℕ → Bool} → Growing test → (g : ℕ) → 1 ≤ g → test (g - 1) ≡ false → test (g + 1) ≡ true → Least test (g + step_from (test g))
unfolding step_from
stepped {test} grows g h low high = at (test g) refl
  where
    at : (t : Bool) → test g ≡ t → Least test (g + step_from t)
    at true p = subst (Least test) (omega arith) (least_after grows (g - 1) g (omega arith) low p)
    at false p = subst (Least test) (omega arith) (least_after grows g (g + 1) (omega arith) p high)

pub corrected : {root : Root} {s g a : ℕ} → s ≤ most_squares → Close root s g → a ≡ step_from (passes root s g) → Distance root s (g + a)
corrected {root} {s} {g} h c p = record {
  at = rw p (least_unique (stepped (passes_grow root s) g c.low c.failed c.passed) (distance_least root s h));
  bits = omega (arith, c, step_small _ p);
}
