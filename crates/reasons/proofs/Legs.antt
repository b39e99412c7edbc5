-- Edges with their lower point first: what does not mind the order of two points, cx before cy in edge order where x <
-- y, and savings above 0. Assumes nothing.
use Prim.Native.Nat.{ℕ, zero, suc, ◌≤◌, ◌<◌, min, max}
use mathlib.Core.Path.{◌≡◌, refl, sym, ◌∙◌, ap₂, subst}
use mathlib.Core.Bool.{true, false≢true}
use mathlib.Core.Logic.{◌⊎◌, inl, inr, ⊎_elim, by_cases}
use mathlib.Core.List.{List}
use native.Mathlib.Omega.{arith}
use native.Mathlib.Decide.{dec_le}
use lib.IntN.{ℤ, pos, negsuc}
use Rattle.lengths.specs.Saving.{gains?}
use Rattle.lengths.specs.Edge.{Edge, edge, Before}
use Rattle.sets.specs.EdgeSet.{Joins, Has}
use Rattle.sets.proofs.Laws.Joined.{has_sym}
use Rattle.reasons.specs.PairReason.{gain}
use Rattle.reasons.specs.Tells.{Leg}

pub sorted_same : {A : Type 0} (f : ℕ → ℕ → A) → ((p q : ℕ) → f p q ≡ f q p) → (p q : ℕ) → f (min p q) (max p q) ≡ f p q
sorted_same f turns p q = by_cases (dec_le p q)
    (λ h. let i : min p q ≡ p = omega arith in let j : max p q ≡ q = omega arith in ap₂ f i j)
    (λ h. let i : min p q ≡ q = omega arith in let j : max p q ≡ p = omega arith in ap₂ f i j ∙ turns q p)

pub sorted_joins : (p q : ℕ) → Joins (edge p q) (min p q) (max p q)
sorted_joins p q = by_cases (dec_le p q) (λ h. inl (omega arith, omega arith)) (λ h. inr (omega arith, omega arith))

pub has_sorted : (S : List Edge) (p q : ℕ) → Has S p q → Has S (min p q) (max p q)
has_sorted S p q h = by (sorted_joins p q)
  where
    by : Joins (edge p q) (min p q) (max p q) → Has S (min p q) (max p q)
    by (inl e) = subst (λ (z : ℕ). Has S z (max p q)) e.0 (subst (λ (z : ℕ). Has S p z) e.1 h)
    by (inr e) = has_sym S (max p q) (min p q) (subst (λ (z : ℕ). Has S z (min p q)) e.0 (subst (λ (z : ℕ). Has S p z) e.1 h))

pub sorted : (p q u v : ℕ) → Joins (edge p q) u v → u < v → (u ≡ min p q) × (v ≡ max p q)
sorted p q u v (inl e) l = (omega (arith, e.0, e.1), omega (arith, e.0, e.1))
sorted p q u v (inr e) l = (omega (arith, e.0, e.1), omega (arith, e.0, e.1))

pub sorted_up : (p q : ℕ) → (p ≡ q → ⊥) → min p q < max p q
sorted_up p q ne = omega arith

pub sorted_off : (p q w : ℕ) → (p ≡ w → ⊥) → (q ≡ w → ⊥) → (min p q ≡ w → ⊥) × (max p q ≡ w → ⊥)
sorted_off p q w np nq = by_cases (dec_le p q)
    (λ h. ((λ e. np (omega arith)), λ e. nq (omega arith)))
    (λ h. ((λ e. nq (omega arith)), λ e. np (omega arith)))

-- legs

pub leg_x : (c x y : ℕ) → (x ≡ c → ⊥) → Leg c x y (min c x) (max c x)
leg_x c x y xc = record { up = sorted_up c x (λ e. xc (sym e)); leg = inl (turned (sorted_joins c x)) }
  where
    turned : Joins (edge c x) (min c x) (max c x) → Joins (edge (min c x) (max c x)) c x
    turned (inl e) = inl (sym e.0, sym e.1)
    turned (inr e) = inr (sym e.1, sym e.0)

pub leg_turned : {c x y p q : ℕ} → Leg c x y p q → Leg c y x p q
leg_turned l = record { up = l.up; leg = ⊎_elim inr inl l.leg }

pub which_leg : {c x y p q : ℕ} → Leg c x y p q → ((p ≡ min c x) × (q ≡ max c x)) ⊎ ((p ≡ min c y) × (q ≡ max c y))
which_leg {c} {x} {y} {p} {q} l = ⊎_elim (λ j. inl (at x j)) (λ j. inr (at y j)) l.leg
  where
    at : (z : ℕ) → Joins (edge p q) c z → (p ≡ min c z) × (q ≡ max c z)
    at z (inl e) = (omega (arith, l.up, e.0, e.1), omega (arith, l.up, e.0, e.1))
    at z (inr e) = (omega (arith, l.up, e.0, e.1), omega (arith, l.up, e.0, e.1))

pub not_before : {p q u v : ℕ} → (p ≡ u) × (q ≡ v) → Before p q u v → ⊥
not_before e (inl l) = omega (arith, e.0)
not_before e (inr l) = omega (arith, e.1, l.1)

-- cx stands before cy
pub legs_rise : (c x y : ℕ) → x < y → Before (min c x) (max c x) (min c y) (max c y)
legs_rise c x y l = by_cases (dec_le (min c y) (min c x)) (λ h. inr (omega arith, omega arith)) (λ h. inl (omega arith))

pub legs_order : (c x y p q : ℕ) → x < y → (p ≡ min c y) × (q ≡ max c y) → Before p q (min c x) (max c x) → ⊥
legs_order c x y p q l e (inl h) = omega (arith, e.0)
legs_order c x y p q l e (inr h) = omega (arith, e.0, e.1, h.0, h.1)

-- savings above 0

pub gain_is : (z : ℤ) → gains? z ≡ true → (z ≡ pos (gain z)) × (1 ≤ gain z)
unfolding gains? gain
gain_is (pos zero) h = absurd (false≢true h)
gain_is (pos (suc k)) h = (refl, omega arith)
gain_is (negsuc k) h = absurd (false≢true h)

pub gains_above : (z : ℤ) (k : ℕ) → z ≡ pos k → 1 ≤ k → (gains? z ≡ true) × (gain z ≡ k)
unfolding gains? gain
gains_above z zero e l = absurd (omega arith)
gains_above z (suc k) e l = (rw e, rw e)
