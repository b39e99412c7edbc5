-- A decision as a number: 1 where it holds and 0 where it does not, so that `omega` can count with it; and how a
-- sum is at least 1.
-- `same` is 1 at two equal numbers.
-- Assumes nothing.
use Prim.Native.Nat.{ℕ, ◌+◌, ◌≤◌}
use mathlib.Core.Path.{◌≡◌, refl, sym}
use mathlib.Core.Logic.{◌⊎◌, inl, inr}
use native.Mathlib.Decide.{ℕ_discrete, dec_le}
use native.Mathlib.Omega.{arith}

-- one of two numbers whose sum is at least 1 is at least 1
pub positive : (a b : ℕ) → 1 ≤ a + b → (1 ≤ a) ⊎ (1 ≤ b)
positive a b h = go (dec_le 1 a)
  where
    go : Dec (1 ≤ a) → (1 ≤ a) ⊎ (1 ≤ b)
    go (yes k) = inl k
    go (no k) = inr (omega arith)

unfoldable pub bit : {A : Type 0} → Dec A → ℕ
bit (yes a) = 1
bit (no k) = 0

module _ {A : Type 0} where
  pub bit_true : (d : Dec A) → A → bit d ≡ 1
  unfolding bit
  bit_true (yes a) h = refl
  bit_true (no k) h = absurd (k h)

  pub bit_false : (d : Dec A) → (A → ⊥) → bit d ≡ 0
  unfolding bit
  bit_false (yes a) h = absurd (h a)
  bit_false (no k) h = refl

  pub bit_fact : (d : Dec A) → 1 ≤ bit d → A
  unfolding bit
  bit_fact (yes a) h = a
  bit_fact (no k) h = absurd (omega arith)

pub bit_cong : {A B : Type 0} (d : Dec A) (e : Dec B) → (A → B) → (B → A) → bit d ≡ bit e
unfolding bit
bit_cong (yes a) e f g = sym (bit_true e (f a))
bit_cong (no k) e f g = sym (bit_false e (λ b. k (g b)))

-- 1 if the two numbers are equal, else 0
unfoldable pub same : ℕ → ℕ → ℕ
same a b = bit (ℕ_discrete a b)

pub same_self : (a : ℕ) → same a a ≡ 1
unfolding same
same_self a = bit_true (ℕ_discrete a a) refl

pub same_fact : (a b : ℕ) → 1 ≤ same a b → a ≡ b
unfolding same
same_fact a b h = bit_fact (ℕ_discrete a b) h

pub same_true : (a b : ℕ) → a ≡ b → same a b ≡ 1
unfolding same
same_true a b e = bit_true (ℕ_discrete a b) e

pub same_false : (a b : ℕ) → (a ≡ b → ⊥) → same a b ≡ 0
unfolding same
same_false a b h = bit_false (ℕ_discrete a b) h

pub either_dec : {A B : Type 0} → Dec A → Dec B → Dec (A ⊎ B)
either_dec (yes a) e = yes (inl a)
either_dec (no k) (yes b) = yes (inr b)
either_dec (no k) (no j) = no (λ s. elim s [ inl a ↦ k a | inr b ↦ j b ])
