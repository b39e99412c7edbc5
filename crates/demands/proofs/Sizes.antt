-- The number of edges tells the number of points, and a number of points from 4 to 180 is within the limits. Assumes
-- nothing.
use Prim.Native.Nat.{ℕ, suc, ◌≤◌, ◌<◌}
use mathlib.Core.Path.{◌≡◌}
use mathlib.Core.Bool.{true}
use mathlib.Core.Logic.{⊎_elim}
use native.Mathlib.Omega.{arith}
use borrow.Author.Tests.{le-leb}
use Rattle.lengths.specs.Edge.{edge_count}
use Rattle.lengths.specs.Instance.{least_points, most_points, in_range}
use Rattle.lengths.proofs.Edges.{edge_count_tri, tri-suc, tri_mono, three_way}

-- n(n - 1)/2 tells n from 1 on
edge_count_rises : (m n : ℕ) → 1 ≤ m → m < n → edge_count m < edge_count n
edge_count_rises m n h l = omega (arith, edge_count_tri m, edge_count_tri n, tri-suc m, tri_mono (suc m) n l)

pub edge_count_injective : (m n : ℕ) → 1 ≤ m → 1 ≤ n → edge_count m ≡ edge_count n → m ≡ n
edge_count_injective m n h g e =
    ⊎_elim
    (λ l. absurd (omega (arith, edge_count_rises m n h l)))
    (⊎_elim (λ l. absurd (omega (arith, edge_count_rises n m g l))) (λ q. q))
    (three_way m n)

pub in_limits : {n : ℕ} → least_points ≤ n → n ≤ most_points → in_range n ≡ true
unfolding in_range
in_limits {n} some most = rw (in_range, le-leb least_points n some, le-leb n most_points most)
