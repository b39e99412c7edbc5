-- Trails: the points that the cycle test has passed, the present one first, back to c. In a set with no point
-- of three edges a trail that goes on meets a new point each time, so it closes to a cycle where it meets y.
-- Assumes nothing.
use Prim.Native.Nat.{ℕ, ◌≤◌}
use native.Mathlib.Omega.{arith}
use mathlib.Core.Path.{◌≡◌, sym, subst, subst₂}
use mathlib.Core.List.{List, [], ◌∷◌}
use mathlib.Core.Logic.{inl, inr, ⊎_elim}
use lib.ListN.{length}
use Rattle.lengths.specs.Edge.{Edge}
use Rattle.sets.specs.EdgeSet.{Has, path_edges, closed_edges, AtMostTwo, Cycle}
use Rattle.sets.proofs.Laws.Points.{In, Distinct, once_of_distinct}
use Rattle.sets.proofs.Laws.Joined.{has_sym}

-- E has each point's edge to the next
abbrev pub PathIn : List Edge → ℕ → List ℕ → Type 0
PathIn E a [] = Unit {0}
PathIn E a (b ∷ vs) = Has E a b × PathIn E b vs

-- the last point of a list that starts with a
abbrev pub last_of : ℕ → List ℕ → ℕ
last_of a [] = a
last_of a (b ∷ vs) = last_of b vs

-- the test stands at `at` and came over `from` and `rest`, from c, and has not met y before `at`
pub record Trail (E : List Edge) (c y at from : ℕ) (rest : List ℕ) : Type 0 where
  pub path : PathIn E at (from ∷ rest)
  pub distinct : Distinct (at ∷ from ∷ rest)
  pub ends : last_of from rest ≡ c
  pub no_y : In y (from ∷ rest) → ⊥
  pub some : 1 ≤ length rest

pub last_in : (c a : ℕ) (vs : List ℕ) → last_of a vs ≡ c → In c (a ∷ vs)
last_in c a [] e = inl e
last_in c a (b ∷ vs) e = inr (last_in c b vs e)

path_inside : (E : List Edge) (a : ℕ) (vs : List ℕ) (z : ℕ) → PathIn E a vs → Has E (last_of a vs) z → (p q : ℕ) → Has (path_edges a vs z) p q → Has E p q
unfolding path_edges
path_inside E a [] z ch h p q (inl (inl e)) = subst₂ (Has E) e.0 e.1 h
path_inside E a [] z ch h p q (inl (inr e)) = subst₂ (Has E) e.1 e.0 (has_sym E a z h)
path_inside E a [] z ch h p q (inr k) = absurd k
path_inside E a (b ∷ vs) z ch h p q (inl (inl e)) = subst₂ (Has E) e.0 e.1 ch.0
path_inside E a (b ∷ vs) z ch h p q (inl (inr e)) = subst₂ (Has E) e.1 e.0 (has_sym E a b ch.0)
path_inside E a (b ∷ vs) z ch h p q (inr k) = path_inside E b vs z ch.1 h p q k

module _ (E : List Edge) (two : AtMostTwo E) (plain : (v : ℕ) → Has E v v → ⊥) (c y : ℕ) (cy : Has E c y) where
  -- v, a neighbour of `at`, is none of the points before the last but one: each of these has its two
  -- neighbours on the trail, and c has its two in the trail's second point and in y
  fresh : (at v w : ℕ) (us : List ℕ) → Has E v at → PathIn E w us → Distinct (w ∷ us) → (In at (w ∷ us) → ⊥) → last_of w us ≡ c
      → (In y (w ∷ us) → ⊥) → (at ≡ y → ⊥) → In v us → ⊥
  fresh at v w [] va ch d na l ny ay h = h
  fresh at v w (u ∷ []) va ch d na l ny ay (inl e) =
      ⊎_elim (λ f. na (inl f)) (⊎_elim (λ f. ny (inl f)) ay)
      (two u w at y (has_sym E w u ch.0) (rw e va) (rw l cy))
  fresh at v w (u ∷ []) va ch d na l ny ay (inr h) = h
  fresh at v w (u ∷ t ∷ us) va ch d na l ny ay (inl e) =
      ⊎_elim (λ f. na (inl f)) (⊎_elim (λ f. d.0 (inr (inl (sym f)))) (λ f. na (inr (inr (inl (sym f))))))
      (two u w at t (has_sym E w u ch.0) (rw e va) ch.1.0)
  fresh at v w (u ∷ t ∷ us) va ch d na l ny ay (inr h) =
      fresh at v u (t ∷ us) va ch.1 d.1 (λ k. na (inr k)) l (λ k. ny (inr k)) ay h

  -- a trail that has not met y goes on to any neighbour but the one that it came from
  pub extend : (at from v : ℕ) (rest : List ℕ) → Trail E c y at from rest → (at ≡ y → ⊥) → Has E at v → (v ≡ from → ⊥)
      → Trail E c y v at (from ∷ rest)
  extend at from v rest t ay av vf =
      record {
        path = (has_sym E at v av, t.path);
        distinct = (new, t.distinct);
        ends = t.ends;
        no_y = ⊎_elim ay t.no_y;
        some = omega arith;
      }
    where
      new : In v (at ∷ from ∷ rest) → ⊥
      new =
          ⊎_elim (λ e. plain v (subst (λ (w : ℕ). Has E w v) e av))
          (⊎_elim (λ e. vf (sym e))
          (fresh at v from rest (has_sym E at v av) t.path.1 t.distinct.1 t.distinct.0 t.ends t.no_y ay))

  -- a trail that has met y closes to a cycle
  pub closes : (at from : ℕ) (rest : List ℕ) → Trail E c y at from rest → at ≡ y → Cycle E (at ∷ from ∷ rest)
  unfolding closed_edges
  closes at from rest t e =
      record {
        three = omega (arith, t.some);
        once = once_of_distinct (at ∷ from ∷ rest) t.distinct;
        inside = path_inside E at (from ∷ rest) at t.path (rw (t.ends, e) cy);
      }
