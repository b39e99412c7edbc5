-- The tests of a call (01, "Each operation and its refusals"): each is a Bool with its refusal. "Tests
-- run in the order written": the first that fails decides.
use Rattle.std.specs.Prelude.{ℕ, Bool, List, [], ◌∷◌, Result, Ok, Err, eqb, length}
use Rattle.lists.specs.Test.{all_at_most, each_at_most, unless}
use Rattle.lengths.specs.Edge.{edge_count}
use Rattle.lengths.specs.Instance.{in_range, most_length}
use Rattle.marks.specs.Mark.{are_marks, none_pending}
use Rattle.lengths.specs.declared.refusal.Refusal.{Refusal}
use Rattle.lengths.specs.declared.refusal.Refusal.TheVariants.{Points, Size, Length, Limits, Marks, SomethingPending}

-- a refusal, and whether its test is passed
pub data Test : Type 0 where
  test : (refusal : Refusal) (passed : Bool) → Test

-- the first test that fails decides; what is told where all are passed is the number of points, or nothing
abbrev pub first_failing : {A : Type 0} → (told : A) → List Test → Result A Refusal
first_failing told [] = Ok told
first_failing told (test refusal passed ∷ tests) = unless passed (Err refusal) (first_failing told tests)

-- further tests, of as many points, behind those before
abbrev pub until : Result ℕ Refusal → (ℕ → List Test) → Result ℕ Refusal
until (Err refusal) tests = Err refusal
until (Ok n) tests = first_failing n (tests n)

-- 1: n is within the limits
abbrev pub point_tests : (n : ℕ) → List Test
point_tests n = test Points (in_range n) ∷ []

-- 2: there are n(n - 1)/2 lengths
abbrev pub size_tests : (size n : ℕ) → List Test
size_tests size n = test Size (eqb size (edge_count n)) ∷ []

-- 5: none is above the longest length
abbrev pub length_tests : (table : List ℕ) → List Test
length_tests table = test Length (all_at_most most_length table) ∷ []

-- 25 (02, Paper 11): no low length is above its high one
abbrev pub order_tests : (low high : List ℕ) → List Test
order_tests low high = test Limits (each_at_most low high) ∷ []

-- 6: there are n(n - 1)/2 marks, none above 2
abbrev pub mark_tests : (marks : List ℕ) (n : ℕ) → List Test
mark_tests marks n = test Marks (eqb (length marks) (edge_count n)) ∷ test Marks (are_marks marks) ∷ []

-- 20 (02, Paper 3): nothing is pending
abbrev pub pending_tests : (marks : List ℕ) → List Test
pending_tests marks = test SomethingPending (none_pending marks) ∷ []
