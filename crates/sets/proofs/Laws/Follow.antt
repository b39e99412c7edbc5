-- The cycle test against cycles: where it meets y in time there is a short cycle, and where a short cycle runs
-- through c it meets y in time. For the second, the points of the cycle are closed under neighbours, so the path stays
-- among them; each is new, so there is no room for as many as the test passes. Assumes nothing.
use Prim.Native.Nat.{ℕ, zero, suc, ◌+◌, ◌-◌, ◌≤◌, ◌<◌}
use native.Mathlib.Omega.{arith}
use native.Mathlib.Decide.{ℕ_discrete}
use mathlib.Core.Path.{◌≡◌, refl, sym, ◌∙◌, subst}
use mathlib.Core.Bool.{Bool, true, false, ◌||◌, false≢true}
use mathlib.Core.List.{List, ◌∷◌}
use mathlib.Core.Logic.{inl, inr, ⊎_elim, by_cases}
use lib.Dec.{eqb}
use lib.ListN.{length}
use borrow.Author.Tests.{eqb-true, eqb-false}
use Rattle.lengths.specs.Edge.{Edge}
use Rattle.sets.specs.EdgeSet.{Has, AtMostTwo, NoShortCycle, with_pair}
use Rattle.sets.specs.Neighbours.{neighbours_of, beyond}
use Rattle.sets.specs.Shape.{reaches?, goes_on}
use Rattle.sets.specs.declared.neighbours.PathStep.{PathStep}
use Rattle.sets.specs.declared.neighbours.PathStep.TheVariants.{Stop, On, Fork}
use Rattle.sets.proofs.Laws.Cycle.{Sides}
use Rattle.sets.proofs.Laws.Degree.{pair_keeps, pair_y, old_edge}
use Rattle.sets.proofs.Laws.Neighbours.{Onward, onward_exact}
use Rattle.sets.proofs.Laws.Points.{In, distinct_fits}
use Rattle.sets.proofs.Laws.Trail.{Trail, extend, closes, last_in}

module _ (K : List Edge) (c x y : ℕ) (two : AtMostTwo (with_pair K c x y)) (plain : (v : ℕ) → Has (with_pair K c x y) v v → ⊥) where
  found_step : (n f at from : ℕ) (rest : List ℕ) → Trail (with_pair K c x y) c y at from rest → NoShortCycle n (with_pair K c x y)
      → suc f ≤ n - length (at ∷ from ∷ rest)
      → ((v : ℕ) → Trail (with_pair K c x y) c y v at (from ∷ rest) → reaches? f K at v y ≡ true → ⊥)
      → (t : Bool) → eqb at y ≡ t → (m : PathStep) → Onward K at from m → (t || goes_on m (λ v. reaches? f K at v y)) ≡ true → ⊥
  found_step n f at from rest t long fuel rec true e m h r =
      omega (arith, long (at ∷ from ∷ rest) (closes (with_pair K c x y) two plain c y (pair_y K c x y) at from rest t (eqb-true at y e)))
  found_step n f at from rest t long fuel rec false e Stop h r = false≢true r
  found_step n f at from rest t long fuel rec false e (On v) h r =
      rec v
      (extend (with_pair K c x y) two plain c y (pair_y K c x y) at from v rest t (eqb-false at y e) (pair_keeps K c x y at v h.has) h.new) r
  found_step n f at from rest t long fuel rec false e Fork h r = false≢true r

  -- y is not met in time where there is no short cycle
  pub found : (n f at from : ℕ) (rest : List ℕ) → Trail (with_pair K c x y) c y at from rest → NoShortCycle n (with_pair K c x y)
      → f ≤ n - length (at ∷ from ∷ rest) → reaches? f K from at y ≡ true → ⊥
  unfolding reaches?
  found n zero at from rest t long fuel r = false≢true r
  found n (suc f) at from rest t long fuel r =
      found_step n f at from rest t long fuel (λ v s. found n f v at (from ∷ rest) s long (omega arith)) (eqb at y) refl
      (beyond (neighbours_of K at) from) (onward_exact K at from) r

  -- a neighbour other than `from`
  record Away (ws : List ℕ) (at from : ℕ) : Type 0 where
    w : ℕ
    has : Has (with_pair K c x y) at w
    new : w ≡ from → ⊥
    is_in : In w ws

  away : (ws : List ℕ) (at from : ℕ) → Sides (with_pair K c x y) ws at → Away ws at from
  away ws at from s =
      by_cases (ℕ_discrete s.p from)
      (λ e. record { w = s.q; has = s.has_q; new = λ f. s.apart (e ∙ sym f); is_in = s.in_q })
      (λ ne. record { w = s.p; has = s.has_p; new = ne; is_in = s.in_p })

  met_step : (ws : List ℕ) (f at from : ℕ) (rest : List ℕ) → Trail (with_pair K c x y) c y at from rest → Away ws at from
      → ((v : ℕ) → Trail (with_pair K c x y) c y v at (from ∷ rest) → In v ws → reaches? f K at v y ≡ true)
      → (t : Bool) → eqb at y ≡ t → (m : PathStep) → Onward K at from m → (t || goes_on m (λ v. reaches? f K at v y)) ≡ true
  met_step ws f at from rest t a rec true e m h = refl
  met_step ws f at from rest t a rec false e m h = go m h
    where
      ext : Trail (with_pair K c x y) c y a.w at (from ∷ rest)
      ext = extend (with_pair K c x y) two plain c y (pair_y K c x y) at from a.w rest t (eqb-false at y e) a.has a.new

      c_in : In c (from ∷ rest)
      c_in = last_in c from rest t.ends

      old : Has K at a.w
      old =
          old_edge K c x y at a.w a.has (λ q. t.distinct.0 (subst (λ (u : ℕ). In u (from ∷ rest)) (sym q) c_in)) (λ q. ext.distinct.0 (inr (subst (λ (u : ℕ). In u (from ∷ rest)) (sym q) c_in)))

      go : (m : PathStep) → Onward K at from m → goes_on m (λ v. reaches? f K at v y) ≡ true
      go Stop h = absurd (a.new (h a.w old))
      go (On v) h =
          let same : a.w ≡ v = h.only a.w old a.new in
          rec v (subst (λ (u : ℕ). Trail (with_pair K c x y) c y u at (from ∷ rest)) same ext) (subst (λ (u : ℕ). In u ws) same a.is_in)
      go Fork h =
          absurd
          (⊎_elim h.a_b (⊎_elim h.a_from h.b_from)
          (two at h.a h.b from (pair_keeps K c x y at h.a h.has_a) (pair_keeps K c x y at h.b h.has_b) t.path.0))

  -- among the points of a short cycle y is met in time
  pub met : (n : ℕ) (ws : List ℕ) → length ws < n → ((u : ℕ) → In u ws → Sides (with_pair K c x y) ws u) → (f at from : ℕ) (rest : List ℕ)
      → Trail (with_pair K c x y) c y at from rest → ((u : ℕ) → In u (at ∷ from ∷ rest) → In u ws) → n ≤ length (at ∷ from ∷ rest) + f
      → reaches? f K from at y ≡ true
  unfolding reaches?
  met n ws short sides zero at from rest t sub fuel = absurd (omega (arith, distinct_fits (at ∷ from ∷ rest) ws t.distinct sub))
  met n ws short sides (suc f) at from rest t sub fuel =
      met_step ws f at from rest t (away ws at from (sides at (sub at (inl refl))))
      (λ v s k. met n ws short sides f v at (from ∷ rest) s (λ u. ⊎_elim (λ e. rw (← e) k) (sub u)) (omega arith)) (eqb at y) refl
      (beyond (neighbours_of K at) from) (onward_exact K at from)
