-- Laws of the one way of two that leads to v, and of the segment by the neighbours of u. Assumes nothing.
use Prim.Native.Nat.{ℕ}
use native.Mathlib.Omega.{arith}
use mathlib.Core.Path.{◌≡◌, refl, sym, ◌∙◌, subst}
use mathlib.Core.List.{List, [], ◌∷◌}
use mathlib.Core.Bool.{true, false, false≢true}
use borrow.Author.Tests.{eq-eqb, ne_eqb}
use Rattle.lengths.specs.Edge.{Edge}
use Rattle.sets.specs.Joined.{has?}
use Rattle.sets.specs.Neighbours.{neighbours_of}
use Rattle.sets.specs.declared.neighbours.Neighbours.{Neighbours}
use Rattle.sets.specs.declared.neighbours.Neighbours.TheVariants.{One, Two}
use Rattle.sets.specs.EdgeSet.{Has}
use Rattle.sets.proofs.Exact.{has_exact, neighbours_exact}
use Rattle.sets.proofs.Laws.Neighbours.{NeighboursAre}
use Rattle.std.specs.Prelude.{Option, Some, None}
use Rattle.std.specs.Option.{option_xor}
use Rattle.segments.specs.SegmentTest.{only_way, between, segment_of, some?}
use Rattle.segments.specs.asks.Segment.{Keeps}
use Rattle.segments.specs.declared.order.Order.{Order}

-- a list has a point
pub some_true : (xs : List ℕ) → some? xs ≡ true → xs ≡ [] → ⊥
unfolding some?
some_true [] h e = false≢true h
some_true (x ∷ xs) h e = let z : ◌≡◌ {A = ℕ} 0 1 = cc in omega arith

pub true_some : (xs : List ℕ) → (xs ≡ [] → ⊥) → some? xs ≡ true
unfolding some?
true_some [] h = absurd (h refl)
true_some (x ∷ xs) h = refl

-- one of two ways is nothing, or none is
pub only_right : (xs ys : List ℕ) → xs ≡ [] → only_way xs ys ≡ ys
unfolding only_way
only_right xs ys e = rw e

pub only_left : (xs ys : List ℕ) → ys ≡ [] → only_way xs ys ≡ xs
unfolding only_way
only_left [] ys e = e
only_left (x ∷ xs) ys e = rw e

pub only_both : (xs ys : List ℕ) → (xs ≡ [] → ⊥) → (ys ≡ [] → ⊥) → only_way xs ys ≡ []
unfolding only_way
only_both [] ys p q = absurd (p refl)
only_both (x ∷ xs) [] p q = absurd (q refl)
only_both (x ∷ xs) (y ∷ ys) p q = refl

-- the same points by another name
pub keeps_as : (o : Option Order) {ws xs : List ℕ} → Keeps ws o → ws ≡ xs → Keeps xs o
keeps_as o h e = subst (λ (ys : List ℕ). Keeps ys o) e h

-- and of two answers the one that has points
pub keeps_one : (xs ys : List ℕ) (o p : Option Order) → Keeps xs o → Keeps ys p → Keeps (only_way xs ys) (option_xor o p)
keeps_one xs ys None p e h = keeps_as p h (sym (only_right xs ys e))
keeps_one xs ys (Some o) None h e = keeps_as (Some o) h (sym (only_left xs ys e))
keeps_one xs ys (Some o) (Some p) g h = only_both xs ys g.some h.some

module _ (K : List Edge) (u v : ℕ) where
  not_near : has? K u v ≡ false → Has K u v → ⊥
  not_near h g = false≢true (sym h ∙ (has_exact K u v).1 g)

  -- from a point to itself, and to its neighbour
  pub segment_self : u ≡ v → segment_of K u v ≡ []
  unfolding segment_of
  segment_self e = rw (eq-eqb u v e)

  pub segment_edge : (u ≡ v → ⊥) → has? K u v ≡ true → segment_of K u v ≡ []
  unfolding segment_of
  segment_edge ne e = rw (ne_eqb u v ne, e)

  -- to any other point it goes by the neighbours
  pub segment_by : (m : Neighbours) → (u ≡ v → ⊥) → has? K u v ≡ false → neighbours_of K u ≡ m → between K u v m ≡ segment_of K u v
  unfolding segment_of
  segment_by m ne e h = rw (ne_eqb u v ne, e, h)

  -- where u and v are no neighbours, v is none of those of u
  pub one_apart : has? K u v ≡ false → {a : ℕ} → neighbours_of K u ≡ One a → a ≡ v → ⊥
  one_apart h e q = not_near h (subst (Has K u) q (subst (NeighboursAre K u) e (neighbours_exact K u)).0)

  pub two_apart : has? K u v ≡ false → {a b : ℕ} → neighbours_of K u ≡ Two a b → (a ≡ v → ⊥) × (b ≡ v → ⊥)
  two_apart h e =
      let d = subst (NeighboursAre K u) e (neighbours_exact K u) in
      (λ q. not_near h (subst (Has K u) q d.has_x), λ q. not_near h (subst (Has K u) q d.has_y))
