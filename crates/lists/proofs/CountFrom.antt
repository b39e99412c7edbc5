-- How many numbers pass a test: one that passes is counted, and so are two different ones, the lower first.
-- Assumes nothing.
use Prim.Native.Nat.{ℕ, zero, suc, ◌+◌, ◌≤◌, ◌<◌}
use mathlib.Core.Path.{◌≡◌, sym, ◌∙◌, ap}
use mathlib.Core.Bool.{Bool, true, false}
use native.Mathlib.Omega.{arith}
use native.Mathlib.Decide.{ℕ_discrete, dec_lt}
use Rattle.lists.specs.CountFrom.{count_from}

module _ (p : ℕ → Bool) where
  count_from_yes : (z k : ℕ) → p z ≡ true → count_from p z (suc k) ≡ 1 + count_from p (suc z) k
  unfolding count_from
  count_from_yes z k h = rw (count_from, h)

  -- a number fewer counts no more
  count_from_rest : (z k : ℕ) → count_from p (suc z) k ≤ count_from p z (suc k)
  unfolding count_from
  count_from_rest z k = go (p z)
    where
      go : (t : Bool) → count_from p (suc z) k ≤ elim t [ true ↦ 1 + count_from p (suc z) k | false ↦ count_from p (suc z) k ]
      go true = omega arith
      go false = omega arith

  -- a number that passes is counted
  pub count_from_one : (z k i : ℕ) → z ≤ i → i < z + k → p i ≡ true → 1 ≤ count_from p z k
  count_from_one z zero i l h e = absurd (omega arith)
  count_from_one z (suc k) i l h e = elim (ℕ_discrete i z) [
    | yes q ↦ omega (arith, count_from_yes z k (ap p (sym q) ∙ e))
    | no q ↦ omega (arith, count_from_rest z k, count_from_one (suc z) k i (omega arith) (omega arith) e)
  ]

  -- two numbers that pass are both counted
  count_from_rising : (z k i j : ℕ) → z ≤ i → i < j → j < z + k → p i ≡ true → p j ≡ true → 2 ≤ count_from p z k
  count_from_rising z zero i j l r h e f = absurd (omega arith)
  count_from_rising z (suc k) i j l r h e f = elim (ℕ_discrete i z) [
    | yes q ↦ omega (arith, count_from_yes z k (ap p (sym q) ∙ e), count_from_one (suc z) k j (omega arith) (omega arith) f)
    | no q ↦ omega (arith, count_from_rest z k, count_from_rising (suc z) k i j (omega arith) r (omega arith) e f)
  ]

  pub count_from_two : (z k i j : ℕ) → (i ≡ j → ⊥) → z ≤ i → i < z + k → z ≤ j → j < z + k → p i ≡ true → p j ≡ true → 2 ≤ count_from p z k
  count_from_two z k i j d l h m g e f = elim (dec_lt i j) [
    | yes r ↦ count_from_rising z k i j l r g e f
    | no r ↦ count_from_rising z k j i m (omega (arith, d)) h f e
  ]
