-- A cycle of edges of a tour has all its points. Each point of the cycle has two edges of the cycle, which are its two
-- edges in the tour, so the tour never leaves the cycle; and it has at least n points, since each of 1
-- to n stands in it. Assumes nothing.
use Prim.Native.Nat.{ℕ, ◌≤◌}
use mathlib.Core.Path.{◌≡◌, sym, subst}
use mathlib.Core.Logic.{◌⊎◌, inl, inr, ⊎_elim}
use mathlib.Core.List.{List, [], ◌∷◌}
use native.Mathlib.Omega.{arith}
use Rattle.lengths.specs.Edge.{Edge, Point}
use Rattle.lists.specs.Count.{count}
use Rattle.sets.specs.EdgeSet.{closed_edges, Cycle, NoShortCycle}
use Rattle.tours.specs.Tour.{Tour, Uses}
use Rattle.tours.proofs.Bit.{same_self, same_fact, positive}
use Rattle.tours.proofs.Count.{count_cons, tour_once, length_all}
use Rattle.tours.proofs.Edges.{Inside, has_sym, mark, mark_self, mark_symmetric, length_uses}
use Rattle.tours.proofs.Segment.{Seg, pt, ◌▸◌, cnt, len, cnt_last}
use Rattle.tours.proofs.Opened.{Opened, opened}
use Rattle.tours.proofs.TourNeighbours.{only_two, uses_count, some_edge, TwoEdges, two_edges}

-- what the first point has, and each edge hands on, every point of the segment has
spread : {a b : ℕ} (S : Seg a b) (P : ℕ → Type 0) → ((u v : ℕ) → 1 ≤ len (mark u v) S → P u → P v) → P a → (v : ℕ) → 1 ≤ cnt v S → P v
unfolding cnt len
spread (pt a) P step h v k = subst P (same_fact a v k) h
spread (◌▸◌ {b = b} {c = c} S T) P step h v k =
    let left : (u : ℕ) → 1 ≤ cnt u S → P u = spread S P (λ u w i. step u w (omega arith)) h in
    let right : (u : ℕ) → 1 ≤ cnt u T → P u = spread T P (λ u w i. step u w (omega arith)) (step b c (omega (arith, mark_self b c)) (left b (cnt_last S))) in
    ⊎_elim (left v) (right v) (positive (cnt v S) (cnt v T) k)

module _ {n : ℕ} {t : List ℕ} (T : Tour n t) (es : List Edge) (inside : Inside es (closed_edges t)) where
  -- a tour that is at a point of the cycle stays in the cycle
  stays : (vs : List ℕ) → Cycle es vs → (u v : ℕ) → Uses t u v → 1 ≤ count u vs → 1 ≤ count v vs
  stays vs C u v h k = go (only_two t u E.x E.y v (tour_once T u) (ours E.x E.uses_x) (ours E.y E.uses_y) E.apart h)
    where
      E : TwoEdges vs u
      E = two_edges vs C.once C.three u k

      ours : (w : ℕ) → Uses vs u w → Uses t u w
      ours w i = inside u w (C.inside u w i)

      there : (w : ℕ) → Uses vs u w → 1 ≤ count w vs
      there w i = uses_count vs w u (has_sym (closed_edges vs) u w i)

      go : (v ≡ E.x) ⊎ (v ≡ E.y) → 1 ≤ count v vs
      go (inl e) = subst (λ (w : ℕ). 1 ≤ count w vs) (sym e) (there E.x E.uses_x)
      go (inr e) = subst (λ (w : ℕ). 1 ≤ count w vs) (sym e) (there E.y E.uses_y)

  -- so a cycle has every point of the tour
  visits : (vs : List ℕ) → Cycle es vs → (a : ℕ) → 1 ≤ count a vs → (v : ℕ) → Point n v → 1 ≤ count v vs
  visits vs C a h v p =
      spread
      O.seg
      (λ (w : ℕ). 1 ≤ count w vs)
      (λ u w k. stays vs C u w (length_uses t u w (omega (arith, O.lengths (mark u w) (mark_symmetric u w)))))
      h
      v
      (omega (arith, O.counts v, T.once v p))
    where
      e : (d : ℕ) × Uses vs a d
      e = some_edge vs a h

      O : Opened t a e.0
      O = opened t a e.0 (inside a e.0 (C.inside a e.0 e.1))

  -- edges that a tour uses have no cycle of fewer than n points
  pub no_short_cycle : NoShortCycle n es
  no_short_cycle [] C = absurd (omega (arith, C.three))
  no_short_cycle (a ∷ vs) C = length_all n (a ∷ vs) (visits (a ∷ vs) C a (omega (arith, count_cons a a vs, same_self a)))
