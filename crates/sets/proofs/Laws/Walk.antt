-- The path that the cycle test follows, one point at a time, as the code counts them.
-- Assumes nothing.
use Prim.Native.Nat.{ℕ, suc, ◌+◌, ◌-◌, ◌≤◌, ◌<◌}
use native.Mathlib.Omega.{arith}
use mathlib.Core.Path.{◌≡◌}
use mathlib.Core.Bool.{true, false}
use mathlib.Core.List.{List}
use borrow.Author.Tests.{eq-eqb, ne_eqb}
use Rattle.lengths.specs.Edge.{Edge}
use Rattle.sets.specs.Neighbours.{neighbours_of, beyond}
use Rattle.sets.specs.Shape.{reaches?, goes_on}
use Rattle.sets.specs.declared.neighbours.PathStep.{PathStep}

-- no point is left
pub reaches_end : (n p : ℕ) (K : List Edge) (from at y : ℕ) → n ≤ p → reaches? (n - p) K from at y ≡ false
unfolding reaches?
reaches_end n p K from at y h =
    let e : n - p ≡ 0 = omega arith in
    rw e

one_less : (n p : ℕ) → p < n → n - p ≡ suc (n - (p + 1))
one_less n p h = omega arith

-- y is here
pub reaches_here : (n p : ℕ) (K : List Edge) (from at y : ℕ) → p < n → at ≡ y → reaches? (n - p) K from at y ≡ true
unfolding reaches?
reaches_here n p K from at y h e = rw (one_less n p h, eq-eqb at y e)

-- y is not here, and the path goes on as `beyond` says
pub reaches_step : (n p : ℕ) (K : List Edge) (from at y : ℕ) {m : PathStep} → p < n → (at ≡ y → ⊥) → beyond (neighbours_of K at) from ≡ m
    → reaches? (n - p) K from at y ≡ goes_on m (λ v. reaches? (n - (p + 1)) K at v y)
unfolding reaches?
reaches_step n p K from at y h e s = rw (one_less n p h, ne_eqb at y e, s)
