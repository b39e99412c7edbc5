-- What an accepted verdict says of the tests in front of it, and how to pass them.
-- Every test of the walk is a `guard`, so these few laws serve them all.
use Prim.Native.Nat.{ℕ, zero, suc, ◌≤◌}
use mathlib.Core.Path.{◌≡◌, refl, sym}
use mathlib.Core.Logic.{◌⊎◌, inl, inr}
use mathlib.Core.Bool.{Bool, true, false}
use native.Mathlib.Omega.{arith}
use Rattle.argument.specs.Verdict.{Verdict, accepted, refused, guard, refused_by, and_then}

pub refused_accepted : {A : Type 0} {m r : ℕ} {a : A} → refused m r ≡ accepted a → ⊥
refused_accepted e = let z : ◌≡◌ {A = ℕ} 0 1 = cc in omega arith

pub accepted_inj : {A : Type 0} {a b : A} → accepted a ≡ accepted b → a ≡ b
accepted_inj e = cc

pub guard_passed : {A : Type 0} (b : Bool) (m r : ℕ) (k : Unit {0} → Verdict A) (a : A) → guard b m r k ≡ accepted a → (b ≡ true) × (k tt ≡ accepted a)
unfolding guard
guard_passed true m r k a e = (refl, e)
guard_passed false m r k a e = absurd (refused_accepted e)

-- tests that pass alike go on alike
pub guard_agree : {A : Type 0} (b : Bool) (m r : ℕ) (k k' : Unit {0} → Verdict A) → (b ≡ true → k tt ≡ k' tt) → guard b m r k ≡ guard b m r k'
unfolding guard
guard_agree true m r k k' same = same refl
guard_agree false m r k k' same = refl

pub pass_guard : {A : Type 0} (b : Bool) (m r : ℕ) (k : Unit {0} → Verdict A) → b ≡ true → guard b m r k ≡ k tt
unfolding guard
pass_guard b m r k e = rw e

pub fail_guard : {A : Type 0} (b : Bool) (m r : ℕ) (k : Unit {0} → Verdict A) → b ≡ false → guard b m r k ≡ refused m r
unfolding guard
fail_guard b m r k e = rw e

pub refused_by_passed : {A : Type 0} (m r : ℕ) (a a' : A) → refused_by m r a ≡ accepted a' → (m ≡ 0) × (a ≡ a')
unfolding refused_by
refused_by_passed zero r a a' e = (refl, accepted_inj e)
refused_by_passed (suc m) r a a' e = absurd (refused_accepted e)

pub pass_refused_by : {A : Type 0} (m r : ℕ) (a : A) → m ≡ 0 → refused_by m r a ≡ accepted a
unfolding refused_by
pass_refused_by m r a e = rw e

pub and_then_passed : {A B : Type 0} (v : Verdict A) (k : A → Verdict B) (b : B) → and_then v k ≡ accepted b → (a : A) × (v ≡ accepted a) × (k a ≡ accepted b)
unfolding and_then
and_then_passed (accepted a) k b e = (a, refl, e)
and_then_passed (refused m r) k b e = absurd (refused_accepted e)

pub pass_and_then : {A B : Type 0} (v : Verdict A) (k : A → Verdict B) (a : A) → v ≡ accepted a → and_then v k ≡ k a
unfolding and_then
pass_and_then v k a e = rw e

pub stop_and_then : {A B : Type 0} (v : Verdict A) (k : A → Verdict B) (m r : ℕ) → v ≡ refused m r → and_then v k ≡ refused m r
unfolding and_then
stop_and_then v k m r e = rw e

pub and_then_agree : {A B : Type 0} (v : Verdict A) (k k' : A → Verdict B) → ((a : A) → v ≡ accepted a → k a ≡ k' a) → and_then v k ≡ and_then v k'
unfolding and_then
and_then_agree (accepted a) k k' h = h a refl
and_then_agree (refused m r) k k' h = refl

pub refused_inj : {A : Type 0} {m r m' r' : ℕ} → ◌≡◌ {A = Verdict A} (refused m r) (refused m' r') → (m ≡ m') × (r ≡ r')
refused_inj e = (cc, cc)

-- a refusal is the same whatever would have been answered in its place
pub refused_as : {A B : Type 0} {m r m' r' : ℕ} → ◌≡◌ {A = Verdict A} (refused m r) (refused m' r') → ◌≡◌ {A = Verdict B} (refused m r) (refused m' r')
refused_as e = cc

-- where a refusal comes from
pub guard_refused : {A : Type 0} (b : Bool) (m r : ℕ) (k : Unit {0} → Verdict A) (m' r' : ℕ) → guard b m r k ≡ refused m' r' → ((m ≡ m') × (r ≡ r')) ⊎ ((b ≡ true) × (k tt ≡ refused m' r'))
unfolding guard
guard_refused true m r k m' r' e = inr (refl, e)
guard_refused false m r k m' r' e = inl (refused_inj e)

pub refused_by_refused : {A : Type 0} (m r : ℕ) (a : A) (m' r' : ℕ) → refused_by m r a ≡ refused m' r' → (m ≡ m') × (r ≡ r') × (1 ≤ m')
unfolding refused_by
refused_by_refused zero r a m' r' e = absurd (refused_accepted (sym e))
refused_by_refused (suc m) r a m' r' e = let z = refused_inj e in (z.0, z.1, omega (arith, z.0))

pub and_then_refused : {A B : Type 0} (v : Verdict A) (k : A → Verdict B) (m r : ℕ) → and_then v k ≡ refused m r → (v ≡ refused m r) ⊎ ((a : A) × (v ≡ accepted a) × (k a ≡ refused m r))
unfolding and_then
and_then_refused (accepted a) k m r e = inr (a, refl, e)
and_then_refused (refused m' r') k m r e = inl (cc)
