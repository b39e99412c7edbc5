-- `tour_checked` at each way out of `check_tour`, and that a tour's length stays below 2 ^ 40: no length is above
-- 2,000,000. Assumes nothing.
use Prim.Native.Nat.{ℕ, suc, ◌*◌, ◌≤◌}
use mathlib.Core.Path.{◌≡◌, refl, sym, ◌∙◌, ap, ap₂, subst}
use mathlib.Core.Bool.{Bool, true, false}
use mathlib.Core.List.{List, [], ◌∷◌}
use native.Mathlib.Omega.{arith}
use lib.ListN.{length}
use Rattle.lengths.specs.Edge.{Edge, edge}
use Rattle.lengths.specs.Instance.{most_length}
use Rattle.lengths.specs.Table.{length_of}
use Rattle.sets.specs.EdgeSet.{path_edges, closed_edges}
use Rattle.marks.specs.Mark.{unstruck_in}
use Rattle.rules.specs.PairTest.{every}
use Rattle.lengths.proofs.Tables.{length_small}
use Rattle.tours.specs.Tour.{total, tour_length}
use Rattle.marks.specs.Packed.{marks_of}
use Rattle.admission.specs.Tests.{tested}
use Rattle.tour_check.specs.Tour.{is_tour, tour_checked, CheckedAs}
use Rattle.tour_check.specs.asks.Tour.{TourAsked}
use Rattle.std.specs.Prelude.{Result, Ok, Err}
use Rattle.lengths.specs.Refusal.{refuse}
use Rattle.lengths.specs.declared.refusal.Refusal.{Refusal}
use Rattle.lengths.specs.declared.refusal.Refusal.TheVariants as refusal
use Rattle.lengths.specs.declared.refusal.Refused.{Refused}
use Rattle.tour_check.specs.declared.tour.CheckedTour.{CheckedTour}
use Rattle.admission.proofs.Passed.{InstancePassed, passed_set}
use Rattle.tour_check.proofs.TourLoops.{tour_size}

-- a sum of lengths, none above m
total_small : (l : ℕ → ℕ → ℕ) (m : ℕ) → ((a b : ℕ) → l a b ≤ m) → (es : List Edge) → total l es ≤ m * length es
unfolding total
total_small l m h [] = omega arith
total_small l m h (edge a b ∷ es) = omega (arith, h a b, total_small l m h es)

length_path : (a : ℕ) (vs : List ℕ) (z : ℕ) → length (path_edges a vs z) ≡ suc (length vs)
unfolding path_edges
length_path a [] z = refl
length_path a (b ∷ vs) z = ap suc (length_path b vs z)

length_closed : (t : List ℕ) → length (closed_edges t) ≡ length t
unfolding closed_edges
length_closed [] = refl
length_closed (a ∷ vs) = length_path a vs a

-- what is told of a tour
abbrev told : ℕ → Bool → Result CheckedTour Refused
told sum all-open = Ok (record { length = sum; «open» = all-open })

-- the tests pass, and the numbers are a tour
pub record Toured (n : ℕ) (table marks : List ℕ) (m : ℕ) (t : List ℕ) : Type 0 where
  pub passed : InstancePassed n table marks m
  pub tour : is_tour m t ≡ true

pub toured : {n : ℕ} {table marks : List ℕ} {m : ℕ} {t : List ℕ} → InstancePassed n table marks m → is_tour m t ≡ true → Toured n table marks m t
toured p e = record { passed = p; tour = e }

-- over a packed set: the tests that the code makes
pub admitted : {n : ℕ} {table : List ℕ} (s : List ℕ) {m : ℕ} {r : Result ℕ Refusal} → r ≡ tested n table (marks_of n s) → r ≡ Ok m
    → InstancePassed n table (marks_of m s) m
admitted s e h = passed_set s (sym e ∙ h)

module _ {n : ℕ} {table marks t : List ℕ} where
  pub refused_tests : {r : Refusal} → tested n table marks ≡ Err r → CheckedAs n table marks t (refuse r)
  unfolding tour_checked
  refused_tests h = record { answered = rw (tour_checked, h); countable = tt }

  module _ {m : ℕ} where
    pub refused_tour : InstancePassed n table marks m → is_tour m t ≡ false → CheckedAs n table marks t (refuse refusal.Tour)
    unfolding tour_checked
    refused_tour p e = record { answered = rw (tour_checked, p.answer, e); countable = tt }

    module _ (h : Toured n table marks m t) where
      pub asked_table : TourAsked m table t
      asked_table = record { few = h.passed.lengths.few; some = h.passed.least; whole = h.passed.lengths.whole; tour = h.tour }

      pub asked_marks : TourAsked m marks t
      asked_marks = record { few = h.passed.lengths.few; some = h.passed.least; whole = h.passed.marked; tour = h.tour }

      pub checked_tour : {sum : ℕ} {open? : Bool} → sum ≡ tour_length (length_of m table) t → open? ≡ every (unstruck_in m marks) (closed_edges t)
          → CheckedAs n table marks t (Ok (record { length = sum; «open» = open? }))
      unfolding tour_checked tour_length
      checked_tour {sum} {open?} s o = record {
        answered = rw (tour_checked, h.passed.answer, h.tour) (ap₂ (λ (x : ℕ) (y : Bool). told x y) s o);
        countable = omega (
          arith,
          s,
          total_small (length_of m table) most_length (length_small h.passed.lengths) (closed_edges t),
          length_closed t,
          tour_size asked_table,
          h.passed.lengths.few,
        );
      }

-- over a packed set: the marks are those that it holds for the number of points that the tests answer
pub checked_set : {n : ℕ} {table : List ℕ} (s : List ℕ) {m : ℕ} {t : List ℕ} {r : Result CheckedTour Refused} → InstancePassed n table (marks_of m s) m → CheckedAs n table (marks_of m s) t r → CheckedAs n table (marks_of n s) t r
checked_set {n} {table} s {t = t} {r = r} p c = subst (λ (k : List ℕ). CheckedAs n table k t r) (ap (λ (k : ℕ). marks_of k s) p.same) c
