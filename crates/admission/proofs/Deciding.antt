-- Tests in a row, of which the first that fails decides: what it means that all are passed, both ways, and what stands
-- behind them. Assumes nothing.
use Prim.Native.Nat.{ℕ}
use mathlib.Core.Path.{◌≡◌, refl, sym, ◌∙◌, ap, subst}
use mathlib.Core.Bool.{true, false, true≢false}
use mathlib.Core.List.{List, [], ◌∷◌, ◌++◌}
use Rattle.std.specs.Prelude.{Result, Ok, Err}
use Rattle.lengths.specs.declared.refusal.Refusal.{Refusal}
use Rattle.admission.specs.Tested.{Test, test, first_failing, until}

pub not_passed : {A : Type 0} {r : Refusal} {a : A} → ◌≡◌ {A = Result A Refusal} (Err r) (Ok a) → ⊥
not_passed e = cc

-- every test is passed
abbrev pub AllPassed : List Test → Type 0
AllPassed [] = Unit {0}
AllPassed (test refusal passed ∷ tests) = (passed ≡ true) × AllPassed tests

-- ALL PASSED: points are answered exactly when every test is passed, and they are n
pub all_passed : {A : Type 0} (n : A) (tests : List Test) {m : A} → first_failing n tests ≡ Ok m → (m ≡ n) × AllPassed tests
all_passed n [] {m} h = let e : m ≡ n = cc in (e, tt)
all_passed n (test refusal true ∷ tests) h = let r = all_passed n tests h in (r.0, (refl, r.1))
all_passed n (test refusal false ∷ tests) h = absurd (not_passed h)

pub pass_all : {A : Type 0} (n : A) (tests : List Test) → AllPassed tests → first_failing n tests ≡ Ok n
pass_all n [] h = refl
pass_all n (test refusal true ∷ tests) h = pass_all n tests h.1
pass_all n (test refusal false ∷ tests) h = absurd (true≢false (sym h.0))

-- and so of further tests: those before are passed, and these are
pub until_passed : (t : Result ℕ Refusal) (tests : ℕ → List Test) {m : ℕ} → until t tests ≡ Ok m → (t ≡ Ok m) × AllPassed (tests m)
until_passed (Err refusal) tests h = absurd (not_passed h)
until_passed (Ok p) tests h =
    let r = all_passed p (tests p) h in
    (ap Ok (sym r.0), subst (λ (n : ℕ). AllPassed (tests n)) (sym r.0) r.1)

-- what holds of the refusal of each test holds of the refusal that is answered
abbrev pub EachRefusal : (Refusal → Type 0) → List Test → Type 0
EachRefusal P [] = Unit {0}
EachRefusal P (test refusal passed ∷ tests) = P refusal × EachRefusal P tests

pub refused_by : {A : Type 0} (P : Refusal → Type 0) (n : A) (tests : List Test) {k : Refusal} → EachRefusal P tests → first_failing n tests ≡ Err k → P k
refused_by P n [] each h = absurd (not_passed (sym h))
refused_by P n (test refusal true ∷ tests) each h = refused_by P n tests each.1 h
refused_by P n (test refusal false ∷ tests) {k} each h = let e : refusal ≡ k = cc in subst P e each.0

pub until_refused : (P : Refusal → Type 0) (t : Result ℕ Refusal) (tests : ℕ → List Test) {k : Refusal} → ((j : Refusal) → t ≡ Err j → P j)
    → ((n : ℕ) → EachRefusal P (tests n)) → until t tests ≡ Err k → P k
until_refused P (Err refusal) tests {k} before each h = before k h
until_refused P (Ok n) tests before each h = refused_by P n (tests n) (each n) h

-- further tests behind a list are the list continued
pub joined : (n : ℕ) (tests : List Test) (more : ℕ → List Test) {t : Result ℕ Refusal} → t ≡ first_failing n tests → until t more ≡ first_failing n (tests ++ more n)
joined n tests more {t} e = ap (λ (x : Result ℕ Refusal). until x more) e ∙ go tests
  where
    go : (tests : List Test) → until (first_failing n tests) more ≡ first_failing n (tests ++ more n)
    go [] = refl
    go (test refusal true ∷ tests) = go tests
    go (test refusal false ∷ tests) = refl

-- the same refusal, whatever is told where all tests are passed
still_refused : {A B : Type 0} (a : A) (b : B) (tests : List Test) {k : Refusal} → first_failing a tests ≡ Err k → first_failing b tests ≡ Err k
still_refused a b [] h = absurd (not_passed (sym h))
still_refused a b (test refusal true ∷ tests) h = still_refused a b tests h
still_refused a b (test refusal false ∷ tests) h = let e : refusal ≡ _ = cc in ap Err e

-- FURTHER TESTS behind those that answer p, asked by themselves: what they refuse is refused, and if they are passed
-- p is answered again
module _ {t : Result ℕ Refusal} {p : ℕ} (before : t ≡ Ok p) (more : ℕ → List Test) where
  behind : until t more ≡ first_failing p (more p)
  behind = ap (λ (x : Result ℕ Refusal). until x more) before

  pub refused_behind : {k : Refusal} → first_failing (tt {0}) (more p) ≡ Err k → until t more ≡ Err k
  refused_behind h = behind ∙ still_refused (tt {0}) p (more p) h

  pub passed_behind : {u : Unit {0}} → first_failing (tt {0}) (more p) ≡ Ok u → until t more ≡ Ok p
  passed_behind h = behind ∙ pass_all p (more p) (all_passed (tt {0}) (more p) h).1

-- and a refusal is that of any tests behind it
pub refused_before : {t : Result ℕ Refusal} {k : Refusal} (more : ℕ → List Test) → t ≡ Err k → until t more ≡ Err k
refused_before more h = ap (λ (x : Result ℕ Refusal). until x more) h
