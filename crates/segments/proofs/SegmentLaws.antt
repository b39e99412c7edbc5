-- What callers of `segment_of` and `reorder` go by: where there is a segment, its points are points of 1 to n, and what
-- an order keeps comes to what is named. Assumes nothing.
use Prim.Native.Nat.{ℕ, zero, suc, ◌<◌}
use native.Mathlib.Omega.{arith}
use mathlib.Core.Path.{◌≡◌, refl, ap, ◌∙◌, subst}
use mathlib.Core.Bool.{Bool, true, false, ◌||◌, cond}
use mathlib.Core.List.{List, [], ◌∷◌}
use mathlib.Core.Logic.{◌⊎◌, inl, inr, ⊎_elim}
use lib.Dec.{eqb}
use lib.ListN.{length, get_or}
use Rattle.lengths.specs.Edge.{Edge, Point}
use Rattle.sets.specs.EdgeSet.{Has}
use Rattle.sets.specs.Joined.{has?}
use Rattle.sets.specs.Neighbours.{neighbours_of}
use Rattle.sets.specs.asks.Stored.{edge_list, Held}
use Rattle.sets.specs.declared.edge_set.EdgeSet.{EdgeSet}
use Rattle.sets.specs.declared.neighbours.Neighbours.{Neighbours}
use Rattle.sets.specs.declared.neighbours.Neighbours.TheVariants.{None, One, Two, More}
use Rattle.sets.proofs.Laws.Neighbours.{NeighboursAre, neighbours_exact}
use Rattle.sets.proofs.Laws.Points.{In}
use Rattle.sets.proofs.Laws.Stored.{held_points}
use Rattle.segments.specs.SegmentTest.{over, only_way, between, segment_of, some?, segment?, reordered, refusal_of, reordering}
use Rattle.std.specs.Prelude.{None as NoOrder}
use Rattle.segments.specs.asks.Order.{order_list, kept, Listed}
use Rattle.segments.specs.asks.Segment.{Names, Keeps}
use Rattle.segments.specs.declared.order.Order.{Order}
use Rattle.segments.proofs.Orders.{reordered_kept}
use Rattle.segments.proofs.WayExact.{over_points}
use Rattle.segments.proofs.Ways.{true_some}

in_way : (x : ℕ) (xs ys : List ℕ) → In x (only_way xs ys) → In x xs ⊎ In x ys
unfolding only_way
in_way x [] ys h = inr h
in_way x (a ∷ xs) [] h = inl h
in_way x (a ∷ xs) (b ∷ ys) h = absurd h

in_place : (xs : List ℕ) (i : ℕ) → i < length xs → In (get_or xs i 0) xs
in_place [] i h = absurd (omega arith)
in_place (x ∷ xs) zero h = inl refl
in_place (x ∷ xs) (suc i) h = inr (in_place xs i (omega arith))

module _ (K : List Edge) (u v : ℕ) (P : ℕ → Type 0) (near : (a b : ℕ) → Has K a b → P b) where
  between_near : (m : Neighbours) → NeighboursAre K u m → (x : ℕ) → In x (between K u v m) → P x
  unfolding between
  between_near None h x k = absurd k
  between_near (One a) h x k = over_points K u v P near a h.0 x k
  between_near (Two a b) h x k =
      ⊎_elim (over_points K u v P near a h.has_x x) (over_points K u v P near b h.has_y x) (in_way x (over K u v a) (over K u v b) k)
  between_near More h x k = absurd k

  -- what holds of every neighbour holds of the inner points
  segment_near : (x : ℕ) → In x (segment_of K u v) → P x
  unfolding segment_of
  segment_near x = go (eqb u v || has? K u v)
    where
      go : (t : Bool) → In x (cond t [] (between K u v (neighbours_of K u))) → P x
      go true h = absurd h
      go false h = between_near (neighbours_of K u) (neighbours_exact K u) x h

module _ (k : EdgeSet) (u v : ℕ) where
  -- no segment
  pub segment_none : Keeps (segment_of (edge_list k) u v) NoOrder → segment? (edge_list k) u v ≡ false
  unfolding segment? some?
  segment_none e = rw e

  module _ (s : Order) (keeps : Names (segment_of (edge_list k) u v) s) where
    pub segment_some : segment? (edge_list k) u v ≡ true
    unfolding segment?
    segment_some = true_some (segment_of (edge_list k) u v) keeps.some

    -- the inner points are points of 1 to n
    pub segment_listed : (n : ℕ) → Held n k → Listed n s
    segment_listed n held i h =
        segment_near (edge_list k) u v (Point n) (λ a b e. (held_points n k held a b e).1) (get_or (order_list s) i 0)
        (subst (In (get_or (order_list s) i 0)) keeps.points (in_place (order_list s) i h))

    -- the answer for what an order keeps is the refusal of all that is named
    pub reordering_kept : (out put : ℕ → ℕ → ℕ) (o : Order) (vs : List ℕ) → order_list o ≡ kept vs
        → refusal_of (reordered out put (order_list s) u v (order_list o)) ≡ reordering out put (edge_list k) u v vs
    reordering_kept out put o vs e =
        ap refusal_of
        (ap (reordered out put (order_list s) u v) e
        ∙ ap (λ (ws : List ℕ). reordered out put ws u v (kept vs)) keeps.points
        ∙ reordered_kept out put (segment_of (edge_list k) u v) u v vs keeps.few)
