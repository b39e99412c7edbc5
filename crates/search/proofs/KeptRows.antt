-- What is kept of a row: nothing or one pair where a test passes no more, the same by two tests that agree on it; and
-- the row may be entered at the first number that passes a test which refuses only what is not kept. Assumes nothing.
use Prim.Native.Nat.{ℕ, zero, suc, ◌+◌, ◌-◌, ◌≤◌, ◌<◌}
use mathlib.Core.Path.{◌≡◌, refl, sym, ◌∙◌, ap, ap₂}
use mathlib.Core.Bool.{Bool, true, false}
use mathlib.Core.List.{List, [], ◌∷◌, ◌++◌, append-nil}
use native.Mathlib.Omega.{arith}
use native.Mathlib.Decide.{ℕ_discrete}
use Rattle.lengths.specs.Edge.{Edge, edge, row}
use Rattle.lists.specs.FirstFrom.{first_from}
use Rattle.rules.specs.Pairs.{keep}
use Rattle.rules.proofs.PairLists.{keep_yes, keep_no, keep_append}
use Rattle.lists.proofs.FirstFrom.{first_from_yes, first_from_no}

-- a row in which no pair passes the test
pub keep_none : (t : ℕ → ℕ → Bool) (x z k : ℕ) → ((i : ℕ) → z ≤ i → i < z + k → t x i ≡ false) → keep t (row x z k) ≡ []
unfolding row keep
keep_none t x z zero h = refl
keep_none t x z (suc k) h =
    keep_no t x z (row x (suc z) k) (h z (omega arith) (omega arith)) ∙ keep_none t x (suc z) k (λ i g g'. h i (omega arith) (omega arith))

-- a row in which no pair but xy passes the test
pub keep_only : (t : ℕ → ℕ → Bool) (x y : ℕ) → ((i : ℕ) → (i ≡ y → ⊥) → t x i ≡ false) → (z k : ℕ) → z ≤ y → y < z + k → keep t (row x z k) ≡ keep t (edge x y ∷ [])
unfolding row
keep_only t x y h z zero low high = absurd (omega arith)
keep_only t x y h z (suc k) low high = elim (ℕ_discrete z y) [
  | yes e ↦ keep_append t (edge x z ∷ []) (row x (suc z) k)
      ∙ ap (λ (es : List Edge). keep t (edge x z ∷ []) ++ es) (keep_none t x (suc z) k (λ i g g'. h i (λ f. omega arith)))
      ∙ append-nil (keep t (edge x z ∷ []))
      ∙ ap (λ (i : ℕ). keep t (edge x i ∷ [])) e
  | no e ↦ keep_no t x z (row x (suc z) k) (h z e) ∙ keep_only t x y h (suc z) k (omega arith) (omega arith)
]

-- two tests that agree on a row keep the same of it
pub keep_same : (t u : ℕ → ℕ → Bool) (x z k : ℕ) → ((i : ℕ) → z ≤ i → t x i ≡ u x i) → keep t (row x z k) ≡ keep u (row x z k)
unfolding row keep
keep_same t u x z zero h = refl
keep_same t u x z (suc k) h = go (t x z) refl (keep_same t u x (suc z) k (λ i g. h i (omega arith)))
  where
    go : (s : Bool) → t x z ≡ s → keep t (row x (suc z) k) ≡ keep u (row x (suc z) k) → keep t (edge x z ∷ row x (suc z) k) ≡ keep u (edge x z ∷ row x (suc z) k)
    go true e ih = keep_yes t x z (row x (suc z) k) e ∙ ap (λ (es : List Edge). edge x z ∷ es) ih ∙ sym (keep_yes u x z (row x (suc z) k) (sym (h z (omega arith)) ∙ e))
    go false e ih = keep_no t x z (row x (suc z) k) e ∙ ih ∙ sym (keep_no u x z (row x (suc z) k) (sym (h z (omega arith)) ∙ e))

module _ (p : ℕ → Bool) where
  -- what the test refuses is not kept, so the row may be entered at the first number that passes
  pub keep_skip : (t : ℕ → ℕ → Bool) (x z k : ℕ) → ((i : ℕ) → z ≤ i → i < z + k → p i ≡ false → t x i ≡ false)
      → keep t (row x z k) ≡ keep t (row x (first_from p z k) (z + k - first_from p z k))
  unfolding row first_from
  keep_skip t x z zero h = let e : z + 0 - z ≡ 0 = omega arith in rw e
  keep_skip t x z (suc k) h = go (p z) refl (keep_skip t x (suc z) k (λ i g1 g2. h i (omega arith) (omega arith)))
    where
      go : (s : Bool) → p z ≡ s
          → keep t (row x (suc z) k) ≡ keep t (row x (first_from p (suc z) k) (suc z + k - first_from p (suc z) k))
          → keep t (row x z (suc k)) ≡ keep t (row x (first_from p z (suc k)) (z + suc k - first_from p z (suc k)))
      go true e ih =
          let f : suc k ≡ z + suc k - first_from p z (suc k) = omega (arith, first_from_yes p z k e) in
          ap₂ (λ (i j : ℕ). keep t (row x i j)) (sym (first_from_yes p z k e)) f
      go false e ih =
          let f : suc z + k - first_from p (suc z) k ≡ z + suc k - first_from p z (suc k) = omega (arith, first_from_no p z k e) in
          keep_no t x z (row x (suc z) k) (h z (omega arith) (omega arith) e)
          ∙ ih
          ∙ ap₂ (λ (i j : ℕ). keep t (row x i j)) (sym (first_from_no p z k e)) f
