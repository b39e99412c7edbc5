-- CHECK A TOUR. Behind tests that pass it answers 17 exactly where the numbers are no tour; else it tells the tour's
-- length, and whether all its edges are open, where a pending edge counts as open. The tests answer 1, 2, 5 or 6, so a
-- 17 comes from behind them. `is_tour` is true exactly of tours (`is_tour_exact`), and the test of every edge of the
-- closed list says what it says of every edge that the tour uses (`all_open_exact`). In C a refusal is from 1 to 17,
-- and a length and a flag come to 65,536 times the length, or to 256 more: no two of these are the same number.
-- Assumes nothing.
use Prim.Native.Nat.{ℕ, ◌+◌, ◌*◌, ◌≤◌}
use mathlib.Core.Path.{◌≡◌, refl, sym, ◌∙◌, ap, ap₂, subst}
use mathlib.Core.Bool.{Bool, true, false, not, ◌&&◌, false≢true}
use mathlib.Core.Logic.{◌↔◌, ◌⊎◌, inl, inr, ⊎_elim}
use mathlib.Core.List.{List}
use native.Mathlib.Decide.{ℕ_discrete}
use native.Mathlib.Omega.{arith}
use lib.Dec.{eqb, leb}
use borrow.Author.Tests.{eqb-false, leb-true}
use Rattle.std.specs.Prelude.{Result, Ok, Err}
use Rattle.lengths.specs.Refusal.{refusal_number, refuse}
use Rattle.lengths.specs.declared.refusal.Refusal.{Refusal}
use Rattle.lengths.specs.declared.refusal.Refusal.TheVariants as refusal
use Rattle.lengths.specs.declared.refusal.Refused.{Refused}
use Rattle.lengths.specs.Refusal.{refuse}
use Rattle.endian.specs.Bytes.{whole16, whole32}
use Rattle.lengths.specs.Edge.{place}
use Rattle.lengths.specs.Table.{length_of}
use Rattle.lists.specs.Test.{unless}
use Rattle.lists.proofs.Bools.{and_left, and_right}
use Rattle.sets.specs.EdgeSet.{closed_edges}
use Rattle.marks.specs.Mark.{struck_mark, open_mark, pending_mark, mark_at, opens, open_up_to, unstruck_in}
use Rattle.marks.specs.Packed.{marks_of}
use Rattle.rules.specs.PairTest.{every}
use Rattle.tours.specs.Tour.{Tour, tour_length}
use Rattle.admission.specs.Tests.{table_tests, tested_table, tested}
use Rattle.tour_check.specs.Tour.{is_tour, check_tested, tour_checked}
use Rattle.tour_check.specs.declared.tour.CheckedTour.{CheckedTour}
use Rattle.admission.specs.Tested.{mark_tests}
use Rattle.admission.proofs.Deciding.{refused_by, until_refused}
use Rattle.admission.proofs.Passed.{passed}
use Rattle.tour_check.proofs.TourExact.{is_tour_exact, all_open_exact}
use Rattle.revosti.specs.Tour.{open_number, checked_number, tour_in_c}
use Rattle.demands.specs.CheckedTours.{TourTold}
use Rattle.revosti.proofs.RefusalNumbers.{number_within}

-- the tests refuse by a number up to 6
abbrev Early : Refusal → Type 0
Early r = refusal_number r ≤ 6

tests_number : (n : ℕ) (table marks : List ℕ) {r : Refusal} → tested n table marks ≡ Err r → Early r
unfolding tested tested_table refusal_number
tests_number n table marks =
    until_refused Early (tested_table n table) (mark_tests marks)
    (λ j. refused_by Early n (table_tests n table) (omega arith, (omega arith, (omega arith, tt)))) (λ m. (omega arith, (omega arith, tt)))

-- open or pending
opens_iff : (mark : ℕ) → (opens pending_mark mark ≡ true) ↔ ((mark ≡ open_mark) ⊎ (mark ≡ pending_mark))
opens_iff mark = (to, ⊎_elim (λ e. rw e) (λ e. rw e))
  where
    to : not (eqb mark struck_mark) && leb mark pending_mark ≡ true → (mark ≡ open_mark) ⊎ (mark ≡ pending_mark)
    to h =
        let high = leb-true mark pending_mark (and_right (not (eqb mark struck_mark)) (leb mark pending_mark) h) in
        elim (ℕ_discrete mark open_mark) [
          | yes e ↦ inl e
          | no d ↦ inr (omega (arith, some (eqb mark struck_mark) refl (and_left (not (eqb mark struck_mark)) (leb mark pending_mark) h)))
        ]
      where
        some : (t : Bool) → eqb mark struck_mark ≡ t → not t ≡ true → 1 ≤ mark
        some true e g = absurd (false≢true g)
        some false e g = let f = eqb-false mark struck_mark e in omega arith

same_test : {P : Type 0} (s t : Bool) → (s ≡ true) ↔ P → (t ≡ true) ↔ P → s ≡ t
same_test true t f g = sym (g.1 (f.0 refl))
same_test false true f g = f.1 (g.0 refl)
same_test false false f g = refl

-- what the answer can be: a test's refusal, 17, or a length and a flag
data TourFound (n : ℕ) (table marks t : List ℕ) (answer : Result CheckedTour Refused) : Type 0 where
  early : (k : Refusal) → tested n table marks ≡ Err k → Early k → answer ≡ refuse k → TourFound n table marks t answer
  none : tested n table marks ≡ Ok n → (Tour n t → ⊥) → answer ≡ refuse refusal.Tour → TourFound n table marks t answer
  some : (sum : ℕ) (all-open : Bool) → tested n table marks ≡ Ok n → TourTold n table marks t sum all-open
      → answer ≡ Ok (record { length = sum; «open» = all-open })
      → TourFound n table marks t answer

not_passed : {r : Result ℕ Refusal} {k : Refusal} {n : ℕ} → r ≡ Err k → r ≡ Ok n → ⊥
not_passed e f = let z : ◌≡◌ {A = ℕ} 0 1 = cc in omega arith

not_told : {r : Refused} {told : CheckedTour} → ◌≡◌ {A = Result CheckedTour Refused} (Err r) (Ok told) → ⊥
not_told e = let z : ◌≡◌ {A = ℕ} 0 1 = cc in omega arith

-- what is told of a tour is told once
told_same : {n : ℕ} {table marks t : List ℕ} {sum s : ℕ} {o b : Bool} → TourTold n table marks t sum o
    → TourTold n table marks t s b → (sum ≡ s) × (o ≡ b)
told_same {o = o} {b = b} T U = (T.measured ∙ sym U.measured, same_test o b T.edges U.edges)

module _ (n : ℕ) (table marks t : List ℕ) where
  told : Tour n t → TourTold n table marks t (tour_length (length_of n table) t) (every (unstruck_in n marks) (closed_edges t))
  unfolding open_up_to
  told T = record {
    tour = T;
    measured = refl;
    edges = (
      λ h a b u. (opens_iff (mark_at marks (place n a b))).0 ((all_open_exact n marks t).0 h a b u),
      λ h. (all_open_exact n marks t).1 (λ a b u. (opens_iff (mark_at marks (place n a b))).1 (h a b u)),
    );
  }

  found : TourFound n table marks t (tour_checked n table marks t)
  unfolding tour_checked
  found = go (tested n table marks) refl
    where
      behind : tested n table marks ≡ Ok n → (b : Bool) → is_tour n t ≡ b
          → TourFound n table marks t
          (unless b (refuse refusal.Tour) (Ok (record { length = tour_length (length_of n table) t; «open» = every (unstruck_in n marks) (closed_edges t) })))
      behind e true h = some _ _ e (told ((is_tour_exact n t).0 h)) refl
      behind e false h = none e (λ T. false≢true (sym h ∙ (is_tour_exact n t).1 T)) refl

      go : (r : Result ℕ Refusal) → tested n table marks ≡ r → TourFound n table marks t (check_tested r table marks t)
      go (Err k) e = early k e (tests_number n table marks e) refl
      go (Ok p) e =
          let q = (passed e).same in
          subst (λ (m : ℕ). TourFound n table marks t (check_tested (Ok m) table marks t)) (sym q)
          (behind (e ∙ ap Ok q) (is_tour n t) refl)

  abbrev answer : Result CheckedTour Refused
  answer = tour_checked n table marks t

  -- 17 exactly where the numbers are no tour, behind tests that pass
  pub tour_refused : (tour_checked n table marks t ≡ refuse refusal.Tour) ↔ ((tested n table marks ≡ Ok n) × (Tour n t → ⊥))
  unfolding refusal_number
  tour_refused = (to found, from found)
    where
      not_tour : {k : Refusal} → Early k → ◌≡◌ {A = Result CheckedTour Refused} (refuse k) (refuse refusal.Tour) → ⊥
      not_tour {k} l e = let f : refusal_number k ≡ 17 = ap (λ (r : Result CheckedTour Refused). elim r [ Ok told ↦ 0 | Err q ↦ refusal_number q.refusal ]) e in omega (arith, l, f)

      to : TourFound n table marks t answer → answer ≡ refuse refusal.Tour → (tested n table marks ≡ Ok n) × (Tour n t → ⊥)
      to (early k r g e) h = absurd (not_tour g (sym e ∙ h))
      to (none p f e) h = (p, f)
      to (some sum o p T e) h = let z : ◌≡◌ {A = ℕ} 0 1 = cc in absurd (omega arith)

      from : TourFound n table marks t answer → (tested n table marks ≡ Ok n) × (Tour n t → ⊥) → answer ≡ refuse refusal.Tour
      from (early k r g e) h = absurd (not_passed r h.0)
      from (none p f e) h = e
      from (some sum o p T e) h = absurd (h.1 T.tour)

  -- a length and a flag exactly where they are the tour's, behind tests that pass
  pub tour_told : (sum : ℕ) (all-open : Bool)
      → (tour_checked n table marks t ≡ Ok (record { length = sum; «open» = all-open }))
      ↔ ((tested n table marks ≡ Ok n) × TourTold n table marks t sum all-open)
  tour_told sum all-open = (to found, from found)
    where
      to : TourFound n table marks t answer → answer ≡ Ok (record { length = sum; «open» = all-open })
          → (tested n table marks ≡ Ok n) × TourTold n table marks t sum all-open
      to (early k r g e) h = absurd (not_told (sym e ∙ h))
      to (none p f e) h = absurd (not_told (sym e ∙ h))
      to (some s o p T e) h =
          let q = sym e ∙ h in
          let f : s ≡ sum = ap (λ (r : Result CheckedTour Refused). elim r [ Ok told ↦ told.length | Err q ↦ s ]) q in
          let g : o ≡ all-open = ap (λ (r : Result CheckedTour Refused). elim r [ Ok told ↦ told.«open» | Err q ↦ o ]) q in
          (p, subst (λ (x : Bool). TourTold n table marks t sum x) g (subst (λ (x : ℕ). TourTold n table marks t x o) f T))

      from : TourFound n table marks t answer → (tested n table marks ≡ Ok n) × TourTold n table marks t sum all-open
          → answer ≡ Ok (record { length = sum; «open» = all-open })
      from (early k r g e) h = absurd (not_passed r h.0)
      from (none p f e) h = absurd (f h.1.tour)
      from (some s o p T e) h = let q = told_same T h.1 in e ∙ ap₂ (λ (s : ℕ) (b : Bool). Ok (record { length = s; «open» = b })) q.0 q.1

-- IN C
flags_apart : (s sum : ℕ) (o b : Bool) → 65536 * s + open_number o ≡ 65536 * sum + open_number b → (s ≡ sum) × (o ≡ b)
flags_apart s sum true true e = (omega arith, refl)
flags_apart s sum true false e = absurd (omega arith)
flags_apart s sum false true e = absurd (omega arith)
flags_apart s sum false false e = (omega arith, refl)

-- a refusal number is no length with a flag
small_apart : (k sum : ℕ) (b : Bool) → 1 ≤ k → k ≤ 29 → k ≡ 65536 * sum + open_number b → ⊥
small_apart k sum true l h e = omega arith
small_apart k sum false l h e = omega arith

module _ (n : ℕ) (table set t : List ℕ) where
  abbrev lengths : List ℕ
  lengths = whole32 table

  abbrev marks : List ℕ
  marks = marks_of n set

  abbrev points : List ℕ
  points = whole16 t

  number_is : {answer : Result CheckedTour Refused} → tour_checked n lengths marks points ≡ answer → tour_in_c n table set t ≡ checked_number answer
  number_is e = ap checked_number e

  pub tour_refused_in_c : (tour_in_c n table set t ≡ 17)
      ↔ ((tested n (whole32 table) (marks_of n set) ≡ Ok n) × (Tour n (whole16 t) → ⊥))
  unfolding refusal_number
  tour_refused_in_c = (to (found n lengths marks points), λ h. number_is ((tour_refused n lengths marks points).1 h))
    where
      to : TourFound n lengths marks points (tour_checked n lengths marks points) → tour_in_c n table set t ≡ 17
          → (tested n lengths marks ≡ Ok n) × (Tour n points → ⊥)
      to (early k r g e) h = let f = number_is e in absurd (omega (arith, f, h, g))
      to (none p f e) h = (p, f)
      to (some sum o p T e) h = absurd (small_apart 17 sum o (omega arith) (omega arith) (sym h ∙ number_is e))

  pub tour_told_in_c : (sum : ℕ) (all-open : Bool) → (tour_in_c n table set t ≡ 65536 * sum + open_number all-open)
      ↔ ((tested n (whole32 table) (marks_of n set) ≡ Ok n) × TourTold n (whole32 table) (marks_of n set) (whole16 t) sum all-open)
  unfolding refusal_number
  tour_told_in_c sum all-open = (to (found n lengths marks points), λ h. number_is ((tour_told n lengths marks points sum all-open).1 h))
    where
      to : TourFound n lengths marks points (tour_checked n lengths marks points) → tour_in_c n table set t ≡ 65536 * sum + open_number all-open
          → (tested n lengths marks ≡ Ok n) × TourTold n lengths marks points sum all-open
      to (early k r g e) h = let f = number_within k in absurd (small_apart (refusal_number k) sum all-open f.0 f.1 (sym (number_is e) ∙ h))
      to (none p f e) h = absurd (small_apart 17 sum all-open (omega arith) (omega arith) (sym (number_is e) ∙ h))
      to (some s o p T e) h =
          let q = flags_apart s sum o all-open (sym (number_is e) ∙ h) in
          let r : TourTold n lengths marks points sum o = subst (λ (x : ℕ). TourTold n lengths marks points x o) q.0 T in
          (p, subst (λ (x : Bool). TourTold n lengths marks points sum x) q.1 r)
