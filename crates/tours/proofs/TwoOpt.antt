-- The exchange of two edges: of the two ways to join the ends of pq and xy anew, one makes a tour, and which one
-- depends on the order in which the tour passes them. Touching edges need no case of their own. Assumes nothing.
use Prim.Native.Nat.{ℕ}
use mathlib.Core.Logic.{◌⊎◌, inl, inr}
use mathlib.Core.List.{List, [], ◌∷◌}
use native.Mathlib.Omega.{arith}
use Rattle.lengths.specs.Edge.{edge}
use Rattle.sets.specs.EdgeSet.{Joins, closed_edges}
use Rattle.tours.specs.Tour.{Tour, total, Uses}
use Rattle.tours.proofs.Edges.{has_sym, mark, mark_false, mark_symmetric, uses_length}
use Rattle.tours.proofs.Segment.{◌▸◌, cnt, len, rev, cnt_rev, len_rev}
use Rattle.tours.proofs.Cut.{Cut, cut}
use Rattle.tours.proofs.Opened.{Opened, opened}
use Rattle.tours.proofs.Exchange.{Exchanged, rejoin, inside_two}

-- Turn the tour so that pq closes it: a path from q to p. Cut the path at xy, which is not pq. If x comes first, the
-- path is q .. x and y .. p; with its second part reversed it is q .. x, p .. y, closed by yq: a tour with px and qy
-- for pq and xy. If y comes first, the same with x and y exchanged gives py and qx.
pub two_opt :
    {n : ℕ} {t : List ℕ} →
    Tour n t →
    (p q x y : ℕ) →
    Uses t p q →
    Uses t x y →
    (Joins (edge p q) x y → ⊥) →
    Exchanged n t (edge p q ∷ edge x y ∷ []) (edge p x ∷ edge q y ∷ []) ⊎ Exchanged n t (edge p q ∷ edge x y ∷ []) (edge p y ∷ edge q x ∷ [])
unfolding cnt len total
two_opt {n} {t} T p q x y hp hx apart = go (cut O.seg x y (omega (arith, uses_length t x y hx, O.lengths (mark x y) (mark_symmetric x y), mark_false x y p q apart)))
  where
    O : Opened t q p
    O = opened t q p (has_sym (closed_edges t) p q hp)

    go :
        Cut O.seg x y ⊎ Cut O.seg y x →
        Exchanged n t (edge p q ∷ edge x y ∷ []) (edge p x ∷ edge q y ∷ []) ⊎ Exchanged n t (edge p q ∷ edge x y ∷ []) (edge p y ∷ edge q x ∷ [])
    go (inl C) =
        inl
        (rejoin
        T
        (inside_two t p q x y hp hx)
        (C.left ▸ rev C.right)
        (λ v. omega (arith, O.counts v, C.counts v, cnt_rev v C.right))
        (λ l s. omega (arith, O.lengths l s, C.lengths l, len_rev l s C.right, s x p, s y q)))
    go (inr C) =
        inr
        (rejoin
        T
        (inside_two t p q x y hp hx)
        (C.left ▸ rev C.right)
        (λ v. omega (arith, O.counts v, C.counts v, cnt_rev v C.right))
        (λ l s. omega (arith, O.lengths l s, C.lengths l, len_rev l s C.right, s y p, s x q, s y x)))
