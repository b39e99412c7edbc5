-- `first_in` and `first_from`: the same number, where one passes, and None where none does. Assumes nothing.
use Prim.Native.Nat.{ℕ, zero, suc, ◌+◌, ◌<◌}
use mathlib.Core.Path.{◌≡◌, refl, sym, ◌∙◌, ap, ap₂}
use mathlib.Core.Bool.{Bool, true, false}
use native.Mathlib.Omega.{arith}
use Rattle.std.specs.Prelude.{Option, Some, None}
use Rattle.lists.specs.FirstFrom.{first_from}
use Rattle.lists.proofs.FirstFrom.{first_from_yes, first_from_no}
use Rattle.search.specs.asks.Pairs.{first_in}

module _ (p : ℕ → Bool) where
  in_yes : (z k : ℕ) → p z ≡ true → first_in p z (suc k) ≡ Some z
  unfolding first_in
  in_yes z k h = rw (first_in, h)

  in_no : (z k : ℕ) → p z ≡ false → first_in p z (suc k) ≡ first_in p (suc z) k
  unfolding first_in
  in_no z k h = rw (first_in, h)

  pub some_in : (z k : ℕ) → first_from p z k < z + k → Some (first_from p z k) ≡ first_in p z k
  unfolding first_from first_in
  some_in z zero h = absurd (omega arith)
  some_in z (suc k) h = go (p z) refl (some_in (suc z) k)
    where
      go : (t : Bool) → p z ≡ t → (first_from p (suc z) k < suc z + k → Some (first_from p (suc z) k) ≡ first_in p (suc z) k)
          → Some (first_from p z (suc k)) ≡ first_in p z (suc k)
      go true e ih = ap Some (first_from_yes p z k e) ∙ sym (in_yes z k e)
      go false e ih = ap Some (first_from_no p z k e) ∙ ih (omega (arith, first_from_no p z k e)) ∙ sym (in_no z k e)

  pub none_in : (z k : ℕ) → z + k ≡ first_from p z k → None ≡ first_in p z k
  unfolding first_from first_in
  none_in z zero h = refl
  none_in z (suc k) h = go (p z) refl (none_in (suc z) k)
    where
      go : (t : Bool) → p z ≡ t → (suc z + k ≡ first_from p (suc z) k → None ≡ first_in p (suc z) k) → None ≡ first_in p z (suc k)
      go true e ih = absurd (omega (arith, first_from_yes p z k e))
      go false e ih = ih (omega (arith, first_from_no p z k e)) ∙ sym (in_no z k e)

  pub found_in : (z k w : ℕ) → Some w ≡ first_in p z k → w ≡ first_from p z k
  unfolding first_from first_in
  found_in z zero w h = cc
  found_in z (suc k) w h = go (p z) refl (found_in (suc z) k w)
    where
      go : (t : Bool) → p z ≡ t → (Some w ≡ first_in p (suc z) k → w ≡ first_from p (suc z) k) → w ≡ first_from p z (suc k)
      go true e ih = let f = in_yes z k e in let g = first_from_yes p z k e in cc
      go false e ih = ih (h ∙ in_no z k e) ∙ sym (first_from_no p z k e)

  pub found_below : (z k w : ℕ) → Some w ≡ first_in p z k → w < z + k
  unfolding first_in
  found_below z zero w h = cc
  found_below z (suc k) w h = go (p z) refl (found_below (suc z) k w)
    where
      go : (t : Bool) → p z ≡ t → (Some w ≡ first_in p (suc z) k → w < suc z + k) → w < z + suc k
      go true e ih = let f = in_yes z k e in let g : w ≡ z = cc in omega arith
      go false e ih = let f = ih (h ∙ in_no z k e) in omega arith

  pub missed_in : (z k : ℕ) → None ≡ first_in p z k → z + k ≡ first_from p z k
  unfolding first_from first_in
  missed_in z zero h = omega arith
  missed_in z (suc k) h = go (p z) refl (missed_in (suc z) k)
    where
      go : (t : Bool) → p z ≡ t → (None ≡ first_in p (suc z) k → suc z + k ≡ first_from p (suc z) k) → z + suc k ≡ first_from p z (suc k)
      go true e ih = let f = in_yes z k e in cc
      go false e ih = omega (arith, ih (h ∙ in_no z k e), first_from_no p z k e)

-- two tests that agree
pub in_same : (p q : ℕ → Bool) → ((i : ℕ) → p i ≡ q i) → (z k : ℕ) → first_in p z k ≡ first_in q z k
unfolding first_in
in_same p q h z zero = refl
in_same p q h z (suc k) = ap₂ (λ (t : Bool) (m : Option ℕ). elim t [ true ↦ Some z | false ↦ m ]) (h z) (in_same p q h (suc z) k)
