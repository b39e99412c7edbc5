-- How often a number stands in the front of a list, and that two places of a list without repeats differ. Assumes
-- nothing.
use Prim.Native.Nat.{ℕ, suc, ◌+◌, ◌≤◌, ◌<◌}
use mathlib.Core.Path.{◌≡◌, ◌∙◌, ap}
use mathlib.Core.List.{List, [], ◌∷◌}
use native.Mathlib.Omega.{arith}
use lib.ListN.{length, get_or, take, drop, take-append-drop}
use lib.Seq.{take-suc, take-take}
use Rattle.lists.specs.Count.{count}
use Rattle.tours.proofs.Bit.{same, same_true, same_self}
use Rattle.tours.proofs.Count.{count_cons, count-append}

-- one more number at the front
pub count-take : (v : ℕ) (t : List ℕ) (i : ℕ) → i < length t → count v (take (suc i) t) ≡ count v (take i t) + same (get_or t i 0) v
unfolding count
count-take v t i h =
    ap (count v) (take-suc t i 0 h)
    ∙ omega (arith, count-append v (take i t) (get_or t i 0 ∷ []), count_cons v (get_or t i 0) [])

pub count_front : (v : ℕ) (t : List ℕ) (i : ℕ) → count v (take i t) ≤ count v t
count_front v t i = omega (arith, count-append v (take i t) (drop i t), ap (count v) (take-append-drop i t))

-- what stands at a place is counted
pub count_at : (t : List ℕ) (i : ℕ) → i < length t → 1 ≤ count (get_or t i 0) t
count_at t i h = omega (arith, count_front (get_or t i 0) t (suc i), count-take (get_or t i 0) t i h, same_self (get_or t i 0))

-- a list in which nothing stands twice has different numbers at different places
pub once_apart : (t : List ℕ) → ((v : ℕ) → count v t ≤ 1) → (i j : ℕ) → i < j → j < length t → get_or t i 0 ≡ get_or t j 0 → ⊥
once_apart t once i j h g e =
    omega (
      arith,
      once (get_or t j 0),
      count_front (get_or t j 0) t (suc j),
      count-take (get_or t j 0) t j g,
      same_self (get_or t j 0),
      before,
    )
  where
    before : 1 ≤ count (get_or t j 0) (take j t)
    before =
        omega (
          arith,
          count-take (get_or t j 0) t i (omega arith),
          same_true (get_or t i 0) (get_or t j 0) e,
          count_front (get_or t j 0) (take j t) (suc i),
          ap (count (get_or t j 0)) (take-take (suc i) j t h),
        )
