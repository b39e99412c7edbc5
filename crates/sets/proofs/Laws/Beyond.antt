-- What a point has beyond c: how it takes in an edge, and the edges of K one by one. Assumes nothing.
use Prim.Native.Nat.{ℕ, zero, suc, ◌+◌, ◌≤◌}
use mathlib.Core.Path.{◌≡◌, refl, sym, ◌∙◌, ap}
use mathlib.Core.Bool.{Bool, true, false, cond}
use mathlib.Core.List.{List}
use native.Mathlib.Omega.{arith}
use native.Mathlib.Decide.{ℕ_discrete}
use lib.Dec.{eqb}
use lib.ListN.{get_or}
use borrow.Author.Tests.{eqb-true, eqb-false}
use Rattle.sets.specs.Neighbours.{with_point, seen, neighbours_of, beyond}
use Rattle.sets.specs.asks.Stored.{edges_of}
use Rattle.sets.specs.asks.Beyond.{further, passing}
use Rattle.sets.specs.declared.neighbours.Neighbours.{Neighbours}
use Rattle.sets.specs.declared.neighbours.Neighbours.TheVariants.{None, One, Two, More}
use Rattle.sets.specs.declared.neighbours.PathStep.{PathStep}
use Rattle.sets.specs.declared.neighbours.PathStep.TheVariants.{Stop, On, Fork}
use Rattle.sets.proofs.Laws.Stored.{neighbours_up}

-- `beyond` takes in a neighbour as `further` does

beyond_with : (m : Neighbours) (u c : ℕ) → beyond (with_point m u) c ≡ further (beyond m c) u c
beyond_with None u c = refl
beyond_with (One a) u c = go (eqb a u) refl (eqb a c) refl (eqb u c) refl
  where
    go : (s : Bool) → eqb a u ≡ s → (t : Bool) → eqb a c ≡ t → (r : Bool) → eqb u c ≡ r
        → beyond (cond s (One a) (Two a u)) c ≡ further (cond t Stop (On a)) u c
    go true e true f true g = rw (f, g)
    go true e true f false g = absurd (eqb-false u c g (sym (eqb-true a u e) ∙ eqb-true a c f))
    go true e false f true g = absurd (eqb-false a c f (eqb-true a u e ∙ eqb-true u c g))
    go true e false f false g = rw (f, g, e)
    go false e true f true g = absurd (eqb-false a u e (eqb-true a c f ∙ sym (eqb-true u c g)))
    go false e true f false g = rw (f, g)
    go false e false f true g = rw (f, g)
    go false e false f false g = rw (f, g, e)
beyond_with (Two a b) u c = go (eqb a u) refl (eqb b u) refl (eqb a c) refl (eqb b c) refl (eqb u c) refl
  where
    go : (s : Bool) → eqb a u ≡ s → (s' : Bool) → eqb b u ≡ s' → (t : Bool) → eqb a c ≡ t → (t' : Bool) → eqb b c ≡ t' → (r : Bool) → eqb u c ≡ r
        → beyond (cond s (Two a b) (cond s' (Two a b) More)) c ≡ further (cond t (On b) (cond t' (On a) Fork)) u c
    go true e s' e' true f t' f' true g = rw (f, g)
    go true e s' e' true f t' f' false g = absurd (eqb-false u c g (sym (eqb-true a u e) ∙ eqb-true a c f))
    go true e s' e' false f true f' true g = rw (f, f', g)
    go true e s' e' false f true f' false g = rw (f, f', g, e)
    go true e s' e' false f false f' true g = rw (f, f', g)
    go true e s' e' false f false f' false g = rw (f, f', g)
    go false e true e' true f t' f' true g = rw (f, g)
    go false e true e' true f t' f' false g = rw (f, g, e')
    go false e true e' false f true f' true g = rw (f, f', g)
    go false e true e' false f true f' false g = absurd (eqb-false u c g (sym (eqb-true b u e') ∙ eqb-true b c f'))
    go false e true e' false f false f' true g = rw (f, f', g)
    go false e true e' false f false f' false g = rw (f, f', g)
    go false e false e' true f t' f' true g = absurd (eqb-false a u e (eqb-true a c f ∙ sym (eqb-true u c g)))
    go false e false e' true f t' f' false g = rw (g, e')
    go false e false e' false f true f' true g = absurd (eqb-false b u e' (eqb-true b c f' ∙ sym (eqb-true u c g)))
    go false e false e' false f true f' false g = rw (g, e)
    go false e false e' false f false f' true g = rw g
    go false e false e' false f false f' false g = rw g
beyond_with More u c = go (eqb u c) refl
  where
    go : (t : Bool) → eqb u c ≡ t → Fork ≡ cond t Fork Fork
    go true e = refl
    go false e = refl

beyond_seen : (p q v : ℕ) (m : Neighbours) (c : ℕ) → beyond (seen p q v m) c ≡ passing p q c v (beyond m c)
beyond_seen p q v m c = go (eqb p v) (eqb q v)
  where
    go : (s t : Bool) → beyond (cond s (with_point m q) (cond t (with_point m p) m)) c ≡ cond s (further (beyond m c) q c) (cond t (further (beyond m c) p c) (beyond m c))
    go true t = beyond_with m q c
    go false true = beyond_with m p c
    go false false = refl

-- the edges of K one by one: with one edge more looked at
pub gather_on : (f t : List ℕ) (v c i : ℕ) {met : PathStep} → met ≡ beyond (neighbours_of (edges_of f t i) v) c
    → passing (get_or f i 0) (get_or t i 0) c v met ≡ beyond (neighbours_of (edges_of f t (i + 1)) v) c
gather_on f t v c i e =
    ap (passing (get_or f i 0) (get_or t i 0) c v) e
    ∙ sym (beyond_seen (get_or f i 0) (get_or t i 0) v (neighbours_of (edges_of f t i) v) c)
    ∙ ap (λ (m : Neighbours). beyond m c) (sym (neighbours_up f t i v))

-- several stay several, so the edges that are left need not be looked at

passing_fork : (p q c v : ℕ) → passing p q c v Fork ≡ Fork
passing_fork p q c v = go (eqb p v) (eqb q v) (eqb q c) (eqb p c)
  where
    go : (s t r r' : Bool) → cond s (cond r Fork Fork) (cond t (cond r' Fork Fork) Fork) ≡ Fork
    go true t true r' = refl
    go true t false r' = refl
    go false true r true = refl
    go false true r false = refl
    go false false r r' = refl

pub fork_stays : (f t : List ℕ) (v c i m : ℕ) → i ≤ m → beyond (neighbours_of (edges_of f t i) v) c ≡ Fork → beyond (neighbours_of (edges_of f t m) v) c ≡ Fork
unfolding edges_of neighbours_of
fork_stays f t v c i zero l h = let e : 0 ≡ i = omega arith in ap (λ (j : ℕ). beyond (neighbours_of (edges_of f t j) v) c) e ∙ h
fork_stays f t v c i (suc m) l h = elim (ℕ_discrete (suc m) i) [
  | yes e ↦ ap (λ (j : ℕ). beyond (neighbours_of (edges_of f t j) v) c) e ∙ h
  | no d ↦
      beyond_seen (get_or f m 0) (get_or t m 0) v (neighbours_of (edges_of f t m) v) c
      ∙ ap (passing (get_or f m 0) (get_or t m 0) c v) (fork_stays f t v c i m (omega (arith, d)) h)
      ∙ passing_fork (get_or f m 0) (get_or t m 0) c v
]
