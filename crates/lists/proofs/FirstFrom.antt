-- The first number that passes a test: where it lies, when it is a given one, and what may be skipped. Assumes nothing.
use Prim.Native.Nat.{ℕ, zero, suc, ◌+◌, ◌-◌, ◌≤◌, ◌<◌}
use mathlib.Core.Path.{◌≡◌, refl, sym, ◌∙◌, ap, ap₂}
use mathlib.Core.Bool.{Bool, true, false}
use native.Mathlib.Omega.{arith}
use native.Mathlib.Decide.{ℕ_discrete}
use Rattle.lists.specs.FirstFrom.{first_from}

module _ (p : ℕ → Bool) where
  pub first_from_yes : (z k : ℕ) → p z ≡ true → first_from p z (suc k) ≡ z
  unfolding first_from
  first_from_yes z k h = rw (first_from, h)

  pub first_from_no : (z k : ℕ) → p z ≡ false → first_from p z (suc k) ≡ first_from p (suc z) k
  unfolding first_from
  first_from_no z k h = rw (first_from, h)

  pub first_from_low : (z k : ℕ) → z ≤ first_from p z k
  unfolding first_from
  first_from_low z zero = omega arith
  first_from_low z (suc k) = go (p z) refl (first_from_low (suc z) k)
    where
      go : (t : Bool) → p z ≡ t → suc z ≤ first_from p (suc z) k → z ≤ first_from p z (suc k)
      go true e ih = omega (arith, first_from_yes z k e)
      go false e ih = omega (arith, first_from_no z k e)

  pub first_from_high : (z k : ℕ) → first_from p z k ≤ z + k
  unfolding first_from
  first_from_high z zero = omega arith
  first_from_high z (suc k) = go (p z) refl (first_from_high (suc z) k)
    where
      go : (t : Bool) → p z ≡ t → first_from p (suc z) k ≤ suc z + k → first_from p z (suc k) ≤ z + suc k
      go true e ih = omega (arith, first_from_yes z k e)
      go false e ih = omega (arith, first_from_no z k e)

  pub first_from_found : (z k : ℕ) → first_from p z k < z + k → p (first_from p z k) ≡ true
  unfolding first_from
  first_from_found z zero h = absurd (omega arith)
  first_from_found z (suc k) h = go (p z) refl (first_from_found (suc z) k)
    where
      go : (t : Bool) → p z ≡ t → (first_from p (suc z) k < suc z + k → p (first_from p (suc z) k) ≡ true) → p (first_from p z (suc k)) ≡ true
      go true e ih = ap p (first_from_yes z k e) ∙ e
      go false e ih = ap p (first_from_no z k e) ∙ ih (omega (arith, first_from_no z k e))

  pub first_from_none : (z k : ℕ) → ((i : ℕ) → z ≤ i → i < z + k → p i ≡ false) → first_from p z k ≡ z + k
  unfolding first_from
  first_from_none z zero h = omega arith
  first_from_none z (suc k) h =
      first_from_no z k (h z (omega arith) (omega arith)) ∙ first_from_none (suc z) k (λ i g g'. h i (omega arith) (omega arith)) ∙ omega arith

  -- a number that passes, and none below it does
  pub first_from_at : (z k a : ℕ) → z ≤ a → a < z + k → ((i : ℕ) → z ≤ i → i < a → p i ≡ false) → p a ≡ true → first_from p z k ≡ a
  unfolding first_from
  first_from_at z zero a l h none e = absurd (omega arith)
  first_from_at z (suc k) a l h none e = elim (ℕ_discrete z a) [
    | yes q ↦ first_from_yes z k (ap p q ∙ e) ∙ q
    | no q ↦ first_from_no z k (none z (omega arith) (omega arith)) ∙ first_from_at (suc z) k a (omega arith) (omega arith) (λ i g g'. none i (omega arith) g') e
  ]

  -- none before the first passes
  pub first_from_before : (z k j : ℕ) → z ≤ j → j < first_from p z k → p j ≡ false
  unfolding first_from
  first_from_before z zero j l h = absurd (omega arith)
  first_from_before z (suc k) j l h = go (p z) refl (first_from_before (suc z) k j)
    where
      go : (t : Bool) → p z ≡ t → (suc z ≤ j → j < first_from p (suc z) k → p j ≡ false) → p j ≡ false
      go true e ih = absurd (omega (arith, first_from_yes z k e))
      go false e ih = elim (ℕ_discrete z j) [
        | yes q ↦ ap p (sym q) ∙ e
        | no q ↦ ih (omega arith) (omega (arith, first_from_no z k e))
      ]

  -- one number more: the first stays, unless there was none and the new one fails too
  pub first_from_stays : (z k : ℕ) → (first_from p z k ≡ z + k → p (z + k) ≡ true) → first_from p z (suc k) ≡ first_from p z k
  unfolding first_from
  first_from_stays z zero h = let e : z + 0 ≡ z = omega arith in first_from_yes z 0 (ap p (sym e) ∙ h (sym e))
  first_from_stays z (suc k) h = go (p z) refl (first_from_stays (suc z) k)
    where
      go : (t : Bool) → p z ≡ t → ((first_from p (suc z) k ≡ suc z + k → p (suc z + k) ≡ true) → first_from p (suc z) (suc k) ≡ first_from p (suc z) k)
          → first_from p z (suc (suc k)) ≡ first_from p z (suc k)
      go true e ih = first_from_yes z (suc k) e ∙ sym (first_from_yes z k e)
      go false e ih =
          let f : suc z + k ≡ z + suc k = omega arith in
          first_from_no z (suc k) e ∙ ih (λ g. ap p f ∙ h (first_from_no z k e ∙ g ∙ f)) ∙ sym (first_from_no z k e)

  pub first_from_ends : (z k : ℕ) → first_from p z k ≡ z + k → p (z + k) ≡ false → first_from p z (suc k) ≡ suc (z + k)
  unfolding first_from
  first_from_ends z zero h g = let e : z ≡ z + 0 = omega arith in first_from_no z 0 (ap p e ∙ g) ∙ ap suc e
  first_from_ends z (suc k) h g = go (p z) refl (first_from_ends (suc z) k)
    where
      go : (t : Bool) → p z ≡ t → (first_from p (suc z) k ≡ suc z + k → p (suc z + k) ≡ false → first_from p (suc z) (suc k) ≡ suc (suc z + k))
          → first_from p z (suc (suc k)) ≡ suc (z + suc k)
      go true e ih = absurd (omega (arith, first_from_yes z k e))
      go false e ih =
          let f : suc z + k ≡ z + suc k = omega arith in
          first_from_no z (suc k) e ∙ ih (sym (first_from_no z k e) ∙ h ∙ sym f) (ap p f ∙ g) ∙ ap suc f

-- two tests that agree
pub first_from_same : (p q : ℕ → Bool) → ((i : ℕ) → p i ≡ q i) → (z k : ℕ) → first_from p z k ≡ first_from q z k
unfolding first_from
first_from_same p q h z zero = refl
first_from_same p q h z (suc k) =
    ap₂ (λ (t : Bool) (m : ℕ). elim t [ true ↦ z | false ↦ m ]) (h z) (first_from_same p q h (suc z) k)

-- a test that refuses what another refuses may begin at the first number that passes the other
pub first_from_skip : (p q : ℕ → Bool) → ((i : ℕ) → q i ≡ false → p i ≡ false) → (z k : ℕ)
    → first_from p z k ≡ first_from p (first_from q z k) (z + k - first_from q z k)
unfolding first_from
first_from_skip p q h z zero = let e : z + 0 - z ≡ 0 = omega arith in rw e
first_from_skip p q h z (suc k) = go (q z) refl (first_from_skip p q h (suc z) k)
  where
    go : (s : Bool) → q z ≡ s
        → first_from p (suc z) k ≡ first_from p (first_from q (suc z) k) (suc z + k - first_from q (suc z) k)
        → first_from p z (suc k) ≡ first_from p (first_from q z (suc k)) (z + suc k - first_from q z (suc k))
    go true e ih =
        let f : suc k ≡ z + suc k - first_from q z (suc k) = omega (arith, first_from_yes q z k e) in
        ap₂ (first_from p) (sym (first_from_yes q z k e)) f
    go false e ih =
        let f : suc z + k - first_from q (suc z) k ≡ z + suc k - first_from q z (suc k) = omega (arith, first_from_no q z k e) in
        first_from_no p z k (h z e) ∙ ih ∙ ap₂ (first_from p) (sym (first_from_no q z k e)) f
