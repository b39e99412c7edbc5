-- The operation "check a tour": 1, 2, 5, 6; 17, not n numbers, or not each point from 1 to n exactly once. A pending
-- edge counts as open.
use Rattle.std.specs.Prelude.{ℕ, zero, suc, ◌<◌, ◌^◌, ◌≡◌, Bool, true, ◌&&◌, List, Result, Ok, Err, eqb, length}
use Rattle.lengths.specs.Table.{length_of}
use Rattle.lists.specs.Test.{unless}
use Rattle.lists.specs.Count.{count}
use Rattle.sets.specs.EdgeSet.{closed_edges}
use Rattle.marks.specs.Mark.{unstruck_in}
use Rattle.rules.specs.PairTest.{every}
use Rattle.tours.specs.Tour.{tour_length}
use Rattle.admission.specs.Tests.{tested}
use Rattle.lengths.specs.Refusal.{refuse}
use Rattle.lengths.specs.declared.refusal.Refusal.{Refusal}
use Rattle.lengths.specs.declared.refusal.Refusal.TheVariants as refusal
use Rattle.lengths.specs.declared.refusal.Refused.{Refused}
use Rattle.tour_check.specs.declared.tour.CheckedTour.{CheckedTour}

-- each of 1 to k stands in the list exactly once
unfoldable pub once_each : ℕ → List ℕ → Bool
once_each zero t = true
once_each (suc k) t = eqb (count (suc k) t) 1 && once_each k t

-- n numbers, each point from 1 to n exactly once
unfoldable pub is_tour : ℕ → List ℕ → Bool
is_tour n t = eqb (length t) n && once_each n t

-- a refusal names record 0: no record is at fault
abbrev pub check_tested : Result ℕ Refusal → List ℕ → List ℕ → List ℕ → Result CheckedTour Refused
check_tested (Err r) table marks t = refuse r
check_tested (Ok n) table marks t =
    unless (is_tour n t) (refuse refusal.Tour)
    (Ok (record { length = tour_length (length_of n table) t; «open» = every (unstruck_in n marks) (closed_edges t) }))

unfoldable pub tour_checked : ℕ → List ℕ → List ℕ → List ℕ → Result CheckedTour Refused
tour_checked n table marks t = check_tested (tested n table marks) table marks t

-- the answer's length has few enough bits that C's number holds it
abbrev pub Countable : Result CheckedTour Refused → Type 0
Countable (Err r) = Unit {0}
Countable (Ok told) = told.length < 2 ^ 40

-- what `check_tour` ensures
pub record CheckedAs (n : ℕ) (table marks t : List ℕ) (r : Result CheckedTour Refused) : Type 0 where
  pub answered : r ≡ tour_checked n table marks t
  pub countable : Countable r
