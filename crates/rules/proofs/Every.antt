-- A test at every edge of a list. `Has` reads an edge in both orders of its points and a test in one. Assumes nothing.
use Prim.Native.Nat.{ℕ}
use mathlib.Core.Path.{◌≡◌, refl, sym, ◌∙◌, ap₂}
use mathlib.Core.Bool.{Bool, true}
use mathlib.Core.Logic.{inl, inr, ⊎_elim}
use mathlib.Core.List.{List, [], ◌∷◌}
use Rattle.lists.proofs.Bools.{and_both, and_true}
use Rattle.lengths.specs.Edge.{Edge, edge}
use Rattle.sets.specs.EdgeSet.{Has}
use Rattle.rules.specs.PairTest.{every}

-- a test that does not mind the order of an edge's points passes at every edge exactly when it passes at all
-- that the list has
pub every_has : (t : ℕ → ℕ → Bool) → ((p q : ℕ) → t p q ≡ true → t q p ≡ true) → (K : List Edge) → every t K ≡ true → (a b : ℕ) → Has K a b → t a b ≡ true
unfolding every
every_has t turn [] e a b h = absurd h
every_has t turn (edge p q ∷ es) e a b h =
    let both = and_true (t p q) (every t es) e in
    ⊎_elim
    (⊎_elim
    (λ j. ap₂ t (sym j.0) (sym j.1) ∙ both.0)
    (λ j. ap₂ t (sym j.1) (sym j.0) ∙ turn p q both.0))
    (λ k. every_has t turn es both.1 a b k)
    h

pub has_every : (t : ℕ → ℕ → Bool) (K : List Edge) → ((a b : ℕ) → Has K a b → t a b ≡ true) → every t K ≡ true
unfolding every
has_every t [] h = refl
has_every t (edge p q ∷ es) h = and_both _ _ (h p q (inl (inl (refl, refl)))) (has_every t es (λ a b k. h a b (inr k)))
