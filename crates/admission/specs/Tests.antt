-- The tests that the operations share (01, "Each operation and its refusals"), each built on the one before: 1, 2, 5
-- and 6, in that order, and 20 behind them, of marking and asking; over two tables (02, Paper 11) 1, 2, 5, 25, 6 and
-- 20, where 2 and 5 read both tables, the low one first.
use Rattle.std.specs.Prelude.{ℕ, List, ◌++◌, Result, length}
use Rattle.admission.specs.Tested.{
  Test,
  first_failing,
  until,
  point_tests,
  size_tests,
  length_tests,
  order_tests,
  mark_tests,
  pending_tests,
}
use Rattle.lengths.specs.declared.refusal.Refusal.{Refusal}

-- 6 and 20, behind the tests before
abbrev pub until_marks : Result ℕ Refusal → (marks : List ℕ) → Result ℕ Refusal
until_marks tested marks = until tested (mark_tests marks)

abbrev pub until_pending : Result ℕ Refusal → (marks : List ℕ) → Result ℕ Refusal
until_pending tested marks = until tested (λ _. pending_tests marks)

-- 1 and 2, of the number of lengths
abbrev pub place_tests : (n size : ℕ) → List Test
place_tests n size = point_tests n ++ size_tests size n

-- 1, 2 and 5
abbrev pub table_tests : (n : ℕ) (table : List ℕ) → List Test
table_tests n table = place_tests n (length table) ++ length_tests table

-- 1, 2, 5 and 25
abbrev pub interval_tests : (n : ℕ) (low high : List ℕ) → List Test
interval_tests n low high =
    place_tests n (length low) ++ size_tests (length high) n ++ length_tests low ++ length_tests high ++ order_tests low high

-- of a table
unfoldable pub tested_table : (n : ℕ) (table : List ℕ) → Result ℕ Refusal
tested_table n table = first_failing n (table_tests n table)

-- of lengths and marks that are to be read: 1, 2 and 6
unfoldable pub places_tested : (n size : ℕ) (marks : List ℕ) → Result ℕ Refusal
places_tested n size marks = until_marks (first_failing n (place_tests n size)) marks

-- of a table and marks
unfoldable pub tested : (n : ℕ) (table marks : List ℕ) → Result ℕ Refusal
tested n table marks = until_marks (tested_table n table) marks

-- and nothing is pending
unfoldable pub ready : (n : ℕ) (table marks : List ℕ) → Result ℕ Refusal
ready n table marks = until_pending (tested n table marks) marks

-- the same over two tables, low and high
unfoldable pub tested_intervals : (n : ℕ) (low high : List ℕ) → Result ℕ Refusal
tested_intervals n low high = first_failing n (interval_tests n low high)

unfoldable pub tested_between : (n : ℕ) (low high marks : List ℕ) → Result ℕ Refusal
tested_between n low high marks = until_marks (tested_intervals n low high) marks

unfoldable pub ready_between : (n : ℕ) (low high marks : List ℕ) → Result ℕ Refusal
ready_between n low high marks = until_pending (tested_between n low high marks) marks
