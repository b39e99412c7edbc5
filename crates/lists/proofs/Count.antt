-- How often a number stands in a list of which one place is overwritten: place by place. Assumes nothing.
use Prim.Native.Nat.{ℕ, zero, suc, ◌+◌}
use mathlib.Core.Path.{◌≡◌, ap}
use mathlib.Core.Bool.{Bool, true, false}
use mathlib.Core.List.{List, [], ◌∷◌}
use lib.Dec.{eqb}
use lib.ListN.{get_or, set}
use borrow.Author.Tests.{eq-eqb, ne_eqb}
use Rattle.lists.specs.Count.{count}

-- v stands once less where another number takes its place; d is what is read past the list
pub count_set : (v u d : ℕ) → (d ≡ v → ⊥) → (u ≡ v → ⊥) → (xs : List ℕ) (i : ℕ) → get_or xs i d ≡ v → count v xs ≡ 1 + count v (set xs i u)
unfolding count
count_set v u d past other [] i h = absurd (past h)
count_set v u d past other (x ∷ xs) zero h = rw (eq-eqb x v h, ne_eqb u v other, count)
count_set v u d past other (x ∷ xs) (suc i) h = by (eqb x v) (count_set v u d past other xs i h)
  where
    by : (t : Bool) → count v xs ≡ 1 + count v (set xs i u) →
        ◌≡◌ {A = ℕ} (elim t [ true ↦ 1 + count v xs | false ↦ count v xs ]) (1 + (elim t [ true ↦ 1 + count v (set xs i u) | false ↦ count v (set xs i u) ]))
    by true e = ap (λ (k : ℕ). 1 + k) e
    by false e = e
