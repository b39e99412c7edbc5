-- The length of a path over a list of points, one point at a time. Assumes nothing.
use Prim.Native.Nat.{ℕ, ◌+◌, ◌*◌, ◌^◌, ◌≤◌, ◌<◌}
use native.Mathlib.Omega.{arith}
use native.Mathlib.Numerals.{add-one}
use mathlib.Core.Path.{◌≡◌}
use mathlib.Core.List.{List}
use lib.ListN.{length, get_or, drop, drop_of_length-le}
use lib.Seq.{drop-cons}
use Rattle.lengths.specs.Edge.{Point}
use Rattle.sets.specs.EdgeSet.{path_edges}
use Rattle.tours.specs.Tour.{total}
use Rattle.segments.specs.asks.Order.{AllPoints}

-- the path's length from u up to the point `a` in front of place i is `sum`
pub record Walked (n : ℕ) (l : ℕ → ℕ → ℕ) (u : ℕ) (points : List ℕ) (v sum a i : ℕ) : Type 0 where
  pub here : Point n a
  pub bits : sum ≤ i * 2 ^ 32
  pub rest : sum + total l (path_edges a (drop i points) v) ≡ total l (path_edges u points v)

module _ {n : ℕ} {l : ℕ → ℕ → ℕ} {u : ℕ} {points : List ℕ} {v sum a i : ℕ} (w : Walked n l u points v sum a i) where
  next : i < length points
      → total l (path_edges a (drop i points) v)
      ≡ l a (get_or points i 0) + total l (path_edges (get_or points i 0) (drop (i + 1) points) v)
  unfolding path_edges total
  next h = rw (add-one, drop-cons points i 0 h)

  pub walked_on : (d : ℕ) → AllPoints n points → i < length points → d ≡ l a (get_or points i 0) → d < 2 ^ 32
      → Walked n l u points v (sum + d) (get_or points i 0) (i + 1)
  walked_on d listed h e small =
      record { here = listed i h; bits = omega (arith, w.bits); rest = omega (arith, w.rest, next h) }

  last : length points ≤ i → total l (path_edges a (drop i points) v) ≡ l a v
  unfolding path_edges total
  last h = rw (drop_of_length-le points h) (omega arith)

  pub walked_all : (d : ℕ) → length points ≤ i → d ≡ l a v → sum + d ≡ total l (path_edges u points v)
  walked_all d h e = omega (arith, w.rest, last h)
