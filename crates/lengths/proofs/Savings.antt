-- Savings: one is above 0 exactly when the new sum is below the old; the smaller of two exactly when both are; the
-- larger exactly when one is. Assumes nothing.
use Prim.Native.Nat.{ℕ, zero, suc, ◌-◌}
use mathlib.Core.Path.{◌≡◌, refl, sym, ◌∙◌}
use mathlib.Core.Bool.{Bool, true, false, cond, ◌&&◌, ◌||◌}
use native.Mathlib.Omega.{arith}
use lib.Dec.{ltb}
use lib.IntN.{ℤ, pos, negsuc}
use lib.Signed.{lt_z}
use Rattle.std.proofs.lemmas.Int.{ints, clamps}
use borrow.Author.Tests.{lt-ltb, le-ltb, ltb-true, ltb-false}
use Rattle.lengths.specs.Saving.{saving, gains?, smaller, larger}

gains_pos : (k : ℕ) → gains? (pos k) ≡ ltb 0 k
unfolding gains?
gains_pos zero = refl
gains_pos (suc k) = sym (lt-ltb 0 (suc k) (omega arith))

-- a saving is above 0 exactly when what is put in is less than what is taken out
pub gains_iff : (old new : ℕ) → gains? (saving old new) ≡ ltb new old
unfolding gains?
gains_iff old new = by (ltb old new) refl
  where
    by : (t : Bool) → ltb old new ≡ t → gains? (cond t (negsuc (new - suc old)) (pos (old - new))) ≡ ltb new old
    by true e = sym (le-ltb new old (omega (arith, ltb-true old new e)))
    by false e = gains_pos (old - new) ∙ less (ltb new old) refl
      where
        less : (u : Bool) → ltb new old ≡ u → ltb 0 (old - new) ≡ u
        less true h = lt-ltb 0 (old - new) (omega (arith, ltb-true new old h))
        less false h = le-ltb 0 (old - new) (omega (arith, ltb-false new old h))

-- the code's test
pub gains_above : (z : ℤ) → lt_z (pos 0) z ≡ gains? z
unfolding gains?
gains_above (pos k) = sym (gains_pos k)
gains_above (negsuc k) = refl

-- the smaller of two is above 0 exactly when both are
pub gains_smaller : (a b : ℤ) → gains? (smaller a b) ≡ gains? a && gains? b
gains_smaller a b = rw (← gains_above (smaller a b), ← gains_above a, ← gains_above b) (grind (arith, ints, clamps))

-- the larger of two is above 0 exactly when one is
pub gains_larger : (a b : ℤ) → gains? (larger a b) ≡ gains? a || gains? b
gains_larger a b = rw (← gains_above (larger a b), ← gains_above a, ← gains_above b) (grind (arith, ints, clamps))
