-- The exchange of three edges that moves one point: c leaves its place between x and y for a place between u and
-- v. The point is a parameter, and u or v may be x or y. Assumes nothing.
use Prim.Native.Nat.{ℕ}
use mathlib.Core.Path.{◌≡◌}
use mathlib.Core.Logic.{◌⊎◌, inl, inr}
use mathlib.Core.List.{List, [], ◌∷◌}
use native.Mathlib.Omega.{arith}
use Rattle.lengths.specs.Edge.{edge}
use Rattle.sets.specs.EdgeSet.{closed_edges}
use Rattle.tours.specs.Tour.{Tour, total, Uses}
use Rattle.tours.proofs.Count.{tour_once}
use Rattle.tours.proofs.Edges.{Inside, has_sym, joins_apart, mark, mark_false, mark_symmetric, uses_length}
use Rattle.tours.proofs.Segment.{pt, ◌▸◌, cnt, len}
use Rattle.tours.proofs.Cut.{Cut, cut}
use Rattle.tours.proofs.TourNeighbours.{Around, around}
use Rattle.tours.proofs.Exchange.{Exchanged, rejoin, inside_three}

-- Without c, the tour is a path from y to x. The edge uv does not touch c, so the path uses it: cut it there. With
-- c between the two parts, y .. u, c, v .. x (or y .. v, c, u .. x), closed by xy, it is a tour with xy, uc and vc for
-- uv, xc and yc. That u or v may be x or y makes a part a single point and changes nothing.
pub or_opt :
    {n : ℕ} {t : List ℕ} →
    Tour n t →
    (c x y u v : ℕ) →
    Uses t c x →
    Uses t c y →
    (x ≡ y → ⊥) →
    Uses t u v →
    (u ≡ c → ⊥) →
    (v ≡ c → ⊥) →
    Exchanged n t (edge u v ∷ edge x c ∷ edge y c ∷ []) (edge x y ∷ edge u c ∷ edge v c ∷ [])
unfolding cnt len total
or_opt {n} {t} T c x y u v hx hy apart hu uc vc =
    go
    (cut
    A.rest
    u
    v
    (omega (
      arith,
      uses_length t u v hu,
      A.lengths (mark u v) (mark_symmetric u v),
      mark_false u v c y (joins_apart c y u v uc vc),
      mark_false u v c x (joins_apart c x u v uc vc),
      mark_symmetric u v c x,
    )))
  where
    A : Around t c x y
    A = around t c x y (tour_once T c) hx hy apart

    taken : Inside (edge u v ∷ edge x c ∷ edge y c ∷ []) (closed_edges t)
    taken = inside_three t u v x c y c hu (has_sym (closed_edges t) c x hx) (has_sym (closed_edges t) c y hy)

    go : Cut A.rest u v ⊎ Cut A.rest v u → Exchanged n t (edge u v ∷ edge x c ∷ edge y c ∷ []) (edge x y ∷ edge u c ∷ edge v c ∷ [])
    go (inl C) =
        rejoin
        T
        taken
        (C.left ▸ pt c ▸ C.right)
        (λ w. omega (arith, A.counts w, C.counts w))
        (λ l s. omega (arith, A.lengths l s, C.lengths l, s c y, s c v))
    go (inr C) =
        rejoin
        T
        taken
        (C.left ▸ pt c ▸ C.right)
        (λ w. omega (arith, A.counts w, C.counts w))
        (λ l s. omega (arith, A.lengths l s, C.lengths l, s c y, s c u, s u v))
