-- The operation "fresh marks": 1, then 6, the set has not the size of n points' marks. Fresh marks are all 1.
use Rattle.std.specs.Prelude.{ℕ, ◌≡◌, List, Result, Ok, Err, eqb, length, replicate}
use Rattle.lengths.specs.Edge.{edge_count}
use Rattle.lengths.specs.Instance.{in_range}
use Rattle.lists.specs.Test.{unless}
use Rattle.marks.specs.Mark.{open_mark}
use Rattle.marks.specs.Packed.{packed_size, packed}
use Rattle.lengths.specs.Refusal.{refuse}
use Rattle.lengths.specs.declared.refusal.Refusal.TheVariants.{Points, Marks}
use Rattle.lengths.specs.declared.refusal.Refused.{Refused}

-- the answer, by the size that the set has and the one that it is to have
abbrev pub fresh_sized : ℕ → (size right : ℕ) → Result Unit Refused
fresh_sized n size right = unless (in_range n) (refuse Points) (unless (eqb size right) (refuse Marks) (Ok tt))

-- of a byte set
unfoldable pub fresh_answer : ℕ → ℕ → Result Unit Refused
fresh_answer n size = fresh_sized n size (edge_count n)

-- of a packed set: "for fresh marks, only the size"
unfoldable pub fresh_set_answer : ℕ → ℕ → Result Unit Refused
fresh_set_answer n size = fresh_sized n size (packed_size n)

-- "Fresh marks are all 1": an open edge for each edge of n points
unfoldable pub fresh_marks : ℕ → List ℕ
fresh_marks n = replicate (edge_count n) open_mark

abbrev pub fresh_left : Result Unit Refused → ℕ → List ℕ → List ℕ
fresh_left (Ok _) n marks = fresh_marks n
fresh_left (Err refused) n marks = marks

abbrev pub fresh_set_left : Result Unit Refused → ℕ → List ℕ → List ℕ
fresh_set_left (Ok _) n set = packed (fresh_marks n)
fresh_set_left (Err refused) n set = set

-- what `fresh_marks` ensures: its answer, and the packed set that it leaves
pub record FreshAs (n : ℕ) (set : List ℕ) (answer : Result Unit Refused) (left : List ℕ) : Type 0 where
  pub answered : answer ≡ fresh_set_answer n (length set)
  pub set-left : left ≡ fresh_set_left (fresh_set_answer n (length set)) n set
