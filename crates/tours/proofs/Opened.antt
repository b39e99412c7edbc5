-- A tour turned, and reversed if need be, so that a given edge that it uses is the closing one: it is then a
-- segment between the two points of that edge. Wherever the tour is cut at first, a cut at the edge and a join at the
-- old closing edge turn it. Assumes nothing.
use Prim.Native.Nat.{ℕ, ◌+◌, ◌≤◌}
use mathlib.Core.Path.{◌≡◌, refl, sym, ◌∙◌, subst, subst₂}
use mathlib.Core.Logic.{◌⊎◌, inl, inr}
use mathlib.Core.List.{List, [], ◌∷◌}
use lib.ListN.{length}
use native.Mathlib.Omega.{arith}
use Rattle.lengths.specs.Edge.{edge}
use Rattle.sets.specs.EdgeSet.{Joins, closed_edges}
use Rattle.lists.specs.Count.{count}
use Rattle.tours.specs.Tour.{tour_length, Uses, Symmetric}
use Rattle.tours.proofs.Bit.{positive}
use Rattle.tours.proofs.Edges.{mark, mark_fact, mark_symmetric, uses_length, one, length_one}
use Rattle.tours.proofs.Segment.{Seg, ◌▸◌, cnt, len, rev, cnt_rev, len_rev, list, count_list, length_list, segment}
use Rattle.tours.proofs.Cut.{Cut, cut}

-- the tour t as a segment from p to q that the edge qp closes
pub record Opened (t : List ℕ) (p q : ℕ) : Type 0 where
  pub seg : Seg p q
  pub counts : (v : ℕ) → count v t ≡ cnt v seg
  pub lengths : (l : ℕ → ℕ → ℕ) → Symmetric l → tour_length l t ≡ len l seg + l q p

pub opened_length : {t : List ℕ} {p q : ℕ} (O : Opened t p q) → length t ≡ len one O.seg + 1
opened_length {t} O = omega (arith, length_one t, O.lengths one (λ a b. refl))

opened_list : {a b : ℕ} (S : Seg a b) → Opened (list S) a b
opened_list S = record { seg = S; counts = λ v. count_list v S; lengths = λ l y. length_list l S }

pub opened_flip : {t : List ℕ} {p q : ℕ} → Opened t p q → Opened t q p
opened_flip {t} {p} {q} O = record { seg = rev O.seg; counts = λ v. O.counts v ∙ sym (cnt_rev v O.seg); lengths = λ l y. omega (arith, O.lengths l y, len_rev l y O.seg, y p q) }

-- a tour that is turned to begin after a cut
opened_cut : {t : List ℕ} {a b x y : ℕ} (O : Opened t a b) → Cut O.seg x y → Opened t y x
unfolding cnt len
opened_cut O C = record { seg = C.right ▸ C.left; counts = λ v. omega (arith, O.counts v, C.counts v); lengths = λ l y. omega (arith, O.lengths l y, C.lengths l) }

opened_at : {t : List ℕ} {a b : ℕ} (O : Opened t a b) (p q : ℕ) → Uses t p q → Opened t p q
opened_at {t} {a} {b} O p q h = go (positive (len (mark p q) O.seg) (mark p q b a) (omega (arith, uses_length t p q h, O.lengths (mark p q) (mark_symmetric p q))))
  where
    turned : Cut O.seg p q ⊎ Cut O.seg q p → Opened t p q
    turned (inl C) = opened_flip (opened_cut O C)
    turned (inr C) = opened_cut O C

    closing : Joins (edge b a) p q → Opened t p q
    closing (inl e) = opened_flip (subst₂ (λ (u v : ℕ). Opened t u v) e.1 e.0 O)
    closing (inr e) = subst₂ (λ (u v : ℕ). Opened t u v) e.1 e.0 O

    go : (1 ≤ len (mark p q) O.seg) ⊎ (1 ≤ mark p q b a) → Opened t p q
    go (inl k) = turned (cut O.seg p q k)
    go (inr k) = closing (mark_fact p q b a k)

-- any list of points but the empty one is a segment that its last point and its first close
pub opened_cons : (a : ℕ) (vs : List ℕ) → Opened (a ∷ vs) a (segment a vs).last
opened_cons a vs = subst (λ (t : List ℕ). Opened t a (segment a vs).last) (segment a vs).points (opened_list (segment a vs).seg)

-- a tour that uses pq is a segment from p to q
pub opened : (t : List ℕ) (p q : ℕ) → Uses t p q → Opened t p q
unfolding closed_edges
opened [] p q h = absurd h
opened (a ∷ vs) p q h = opened_at (opened_cons a vs) p q h
