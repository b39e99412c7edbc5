-- The points in their order, 1, 2, .., n, are a tour: nothing that is said of tours is said of none.
-- Assumes nothing.
use Prim.Native.Nat.{ℕ, zero, suc, ◌+◌, ◌≤◌, ◌<◌}
use mathlib.Core.Path.{◌≡◌, refl}
use mathlib.Core.List.{List, [], ◌∷◌}
use native.Mathlib.Decide.{ℕ_discrete, dec_le}
use native.Mathlib.Omega.{arith}
use Rattle.lists.specs.Count.{count}
use Rattle.tours.specs.Tour.{Tour}
use Rattle.tours.proofs.Bit.{same_true, same_false}
use Rattle.tours.proofs.Count.{count_cons}

-- the k points a, a + 1, ..
unfoldable pub points_from : ℕ → ℕ → List ℕ
points_from a zero = []
points_from a (suc k) = a ∷ points_from (suc a) k

-- 1, 2, .., n
unfoldable pub points : ℕ → List ℕ
points n = points_from 1 n

count_below : (a k v : ℕ) → v < a → count v (points_from a k) ≡ 0
unfolding points_from count
count_below a zero v h = refl
count_below a (suc k) v h = omega (arith, count_cons v a (points_from (suc a) k), same_false a v (omega arith), count_below (suc a) k v (omega arith))

count_inside : (a k v : ℕ) → a ≤ v → v < a + k → count v (points_from a k) ≡ 1
unfolding points_from
count_inside a zero v h j = absurd (omega arith)
count_inside a (suc k) v h j = go (ℕ_discrete a v) (count_inside (suc a) k v)
  where
    go : Dec (a ≡ v) → (suc a ≤ v → v < suc a + k → count v (points_from (suc a) k) ≡ 1) → count v (a ∷ points_from (suc a) k) ≡ 1
    go (yes e) r = omega (arith, count_cons v a (points_from (suc a) k), same_true a v e, count_below (suc a) k v (omega arith))
    go (no d) r = omega (arith, count_cons v a (points_from (suc a) k), same_false a v d, r (omega arith) (omega arith))

count_above : (a k v : ℕ) → a + k ≤ v → count v (points_from a k) ≡ 0
unfolding points_from count
count_above a zero v h = refl
count_above a (suc k) v h = omega (arith, count_cons v a (points_from (suc a) k), same_false a v (omega arith), count_above (suc a) k v (omega arith))

pub points_tour : (n : ℕ) → Tour n (points n)
unfolding points
points_tour n = record { once = λ v p. count_inside 1 n v p.low (omega arith); only = λ v h. record { low = low v h (dec_le 1 v); high = high v h (dec_le v n) } }
  where
    low : (v : ℕ) → 1 ≤ count v (points_from 1 n) → Dec (1 ≤ v) → 1 ≤ v
    low v h (yes k) = k
    low v h (no k) = absurd (omega (arith, count_below 1 n v (omega arith)))

    high : (v : ℕ) → 1 ≤ count v (points_from 1 n) → Dec (v ≤ n) → v ≤ n
    high v h (yes k) = k
    high v h (no k) = absurd (omega (arith, count_above 1 n v (omega arith)))
