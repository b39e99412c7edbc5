-- The search by halves finds the least number that passes a growing test: shown once for all growing tests.
-- The least number is unique, so whatever passes with all below it failing is what the search answers. Assumes nothing.
use Prim.Native.Nat.{ℕ, zero, suc, ◌+◌, ◌-◌, ◌^◌, ◌≤◌, ◌<◌}
use mathlib.Core.Path.{◌≡◌, refl, sym, ◌∙◌, subst}
use mathlib.Core.Bool.{Bool, true, false, true≢false}
use native.Mathlib.Nat.{two-pow-succ, le_antisymm}
use native.Mathlib.Decide.{dec_lt}
use native.Mathlib.Omega.{arith}
use lib.Pow.{pow_pos}
use Rattle.lengths.specs.Distance.{Growing, Least, bisect}

bisect_passed : (test : ℕ → Bool) (k from : ℕ) → test (from + 2 ^ k - 1) ≡ true → bisect test (suc k) from ≡ bisect test k from
unfolding bisect
bisect_passed test k from h = rw (bisect, h)

bisect_failed : (test : ℕ → Bool) (k from : ℕ) → test (from + 2 ^ k - 1) ≡ false → bisect test (suc k) from ≡ bisect test k (from + 2 ^ k)
unfolding bisect
bisect_failed test k from h = rw (bisect, h)

-- the answer has k bits from `from` on, whatever the test
pub bisect_below : (test : ℕ → Bool) (k from : ℕ) → bisect test k from < from + 2 ^ k
unfolding bisect
bisect_below test zero from = omega arith
bisect_below test (suc k) from = halved (test (from + 2 ^ k - 1)) refl (bisect_below test k from) (bisect_below test k (from + 2 ^ k))
  where
    halved : (b : Bool) → test (from + 2 ^ k - 1) ≡ b → bisect test k from < from + 2 ^ k → bisect test k (from + 2 ^ k) < from + 2 ^ k + 2 ^ k
        → bisect test (suc k) from < from + 2 ^ suc k
    halved true h lower upper = rw (bisect_passed test k from h) (omega (arith, two-pow-succ k))
    halved false h lower upper = rw (bisect_failed test k from h) (omega (arith, two-pow-succ k))

-- what fails at d fails below it
pub fails_below : {test : ℕ → Bool} → Growing test → (d e : ℕ) → test d ≡ false → test e ≡ true → d < e
fails_below grows d e f t = elim (dec_lt d e) [
  | yes h ↦ h
  | no h ↦ absurd (true≢false (sym (grows e d (omega arith) t) ∙ f))
]

-- Below `from` everything fails, and from + 2 ^ k - 1 passes: so the least number that passes is among the 2 ^
-- k from `from` on. The middle one decides the half, and both facts hold of that half again.
pub bisect_least : {test : ℕ → Bool} → Growing test → (k from : ℕ) → ((e : ℕ) → test e ≡ true → from ≤ e)
    → test (from + 2 ^ k - 1) ≡ true → Least test (bisect test k from)
unfolding bisect
bisect_least {test} grows zero from below top =
    let t : from + 2 ^ 0 - 1 ≡ from = omega arith in
    record { passed = subst (λ (d : ℕ). test d ≡ true) t top; least = below }
bisect_least {test} grows (suc k) from below top =
    halve (test (from + 2 ^ k - 1)) refl
    (λ h. bisect_least grows k from below h)
    (λ h. bisect_least grows k (from + 2 ^ k) (λ e t. omega (arith, fails_below grows _ e h t, pow_pos k))
    (subst (λ (d : ℕ). test d ≡ true) (omega (arith, two-pow-succ k)) top))
  where
    halve : (b : Bool) → test (from + 2 ^ k - 1) ≡ b → (test (from + 2 ^ k - 1) ≡ true → Least test (bisect test k from))
        → (test (from + 2 ^ k - 1) ≡ false → Least test (bisect test k (from + 2 ^ k))) → Least test (bisect test (suc k) from)
    halve true h lower upper = rw (bisect_passed test k from h) (lower h)
    halve false h lower upper = rw (bisect_failed test k from h) (upper h)

-- what passes next to a number that fails is the least
pub least_after : {test : ℕ → Bool} → Growing test → (d e : ℕ) → e ≤ d + 1 → test d ≡ false → test e ≡ true → Least test e
least_after grows d e h f t = record { passed = t; least = λ n p. omega (arith, fails_below grows d n f p) }

pub least_unique : {test : ℕ → Bool} {d e : ℕ} → Least test d → Least test e → d ≡ e
least_unique {d = d} {e} l m = le_antisymm (l.least e m.passed) (m.least d l.passed)
