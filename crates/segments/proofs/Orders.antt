-- What an order leaves out does not matter: a segment has fewer points than are kept. Assumes nothing.
use Prim.Native.Nat.{ℕ, ◌≤◌, ◌<◌}
use native.Mathlib.Omega.{arith}
use native.Mathlib.Decide.{dec_le}
use mathlib.Core.Path.{◌≡◌, sym, ◌∙◌}
use mathlib.Core.Bool.{false}
use mathlib.Core.Logic.{by_cases}
use mathlib.Core.List.{List, [], ◌∷◌, ◌++◌}
use lib.ListN.{length, take}
use lib.Seq.{take_all, take-take, take-append-le, length-take-le}
use borrow.Author.Tests.{ne_eqb}
use Rattle.sets.specs.asks.Stored.{most_known}
use Rattle.segments.specs.SegmentTest.{same_points?, reordered}
use Rattle.segments.specs.asks.Order.{kept}

-- naming one point at a time keeps the first of them
pub kept_then : (vs : List ℕ) (v : ℕ) → kept (kept vs ++ v ∷ []) ≡ kept (vs ++ v ∷ [])
kept_then vs v = by_cases (dec_le (length vs) most_known) short long
  where
    short : length vs ≤ most_known → take most_known (take most_known vs ++ v ∷ []) ≡ take most_known (vs ++ v ∷ [])
    short h = rw (take_all most_known vs h)

    long : (length vs ≤ most_known → ⊥) → take most_known (take most_known vs ++ v ∷ []) ≡ take most_known (vs ++ v ∷ [])
    long h =
        take-append-le most_known (take most_known vs) (v ∷ []) (omega (arith, length-take-le most_known vs (omega arith)))
        ∙ take-take most_known most_known vs (omega arith) ∙ sym (take-append-le most_known vs (v ∷ []) (omega arith))

-- lists of different lengths have not the same points
other_length : (vs ws : List ℕ) → (length vs ≡ length ws → ⊥) → same_points? vs ws ≡ false
other_length vs ws ne = rw (ne_eqb (length vs) (length ws) ne)

-- what an order comes to is what its kept points come to
pub reordered_kept : (out put : ℕ → ℕ → ℕ) (ws : List ℕ) (u v : ℕ) (vs : List ℕ) → length ws < most_known
    → reordered out put ws u v (kept vs) ≡ reordered out put ws u v vs
reordered_kept out put ws u v vs few = by_cases (dec_le (length vs) most_known) short long
  where
    short : length vs ≤ most_known → reordered out put ws u v (take most_known vs) ≡ reordered out put ws u v vs
    short h = rw (take_all most_known vs h)

    long : (length vs ≤ most_known → ⊥) → reordered out put ws u v (take most_known vs) ≡ reordered out put ws u v vs
    long h =
        rw (
          other_length (take most_known vs) ws (λ e. omega (arith, length-take-le most_known vs (omega arith))),
          other_length vs ws (λ e. omega arith),
        )
