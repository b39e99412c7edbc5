-- The operations "confirm" and "withdraw" (02, Paper 3): 1, 6, 21. "Confirming turns every 2 into 0, withdrawing turns
-- every 2 into 1."
use Rattle.std.specs.Prelude.{ℕ, ◌≡◌, cond, not, List, Result, Ok, Err, map, eqb, length}
use Rattle.lengths.specs.Edge.{edge_count}
use Rattle.lengths.specs.Instance.{in_range}
use Rattle.lists.specs.Test.{unless}
use Rattle.marks.specs.Mark.{pending_mark, are_marks, none_pending}
use Rattle.marks.specs.Packed.{marks_of, repacked}
use Rattle.lengths.specs.Refusal.{refuse}
use Rattle.lengths.specs.declared.refusal.Refusal.TheVariants.{Points, Marks, NothingPending}
use Rattle.lengths.specs.declared.refusal.Refused.{Refused}

-- the tests in their order
unfoldable pub resolved_answer : ℕ → List ℕ → Result Unit Refused
resolved_answer n marks =
    unless (in_range n) (refuse Points)
    (unless (eqb (length marks) (edge_count n)) (refuse Marks)
    (unless (are_marks marks) (refuse Marks)
    (unless (not (none_pending marks)) (refuse NothingPending)
    (Ok tt))))

-- a mark with `mark` in the place of pending
abbrev pub resolved_mark : (mark : ℕ) → ℕ → ℕ
resolved_mark mark m = cond (eqb m pending_mark) mark m

-- every pending mark turned into `mark`
unfoldable pub resolved_marks : (mark : ℕ) → List ℕ → List ℕ
resolved_marks mark marks = map (resolved_mark mark) marks

abbrev pub resolved_left : Result Unit Refused → (mark : ℕ) → List ℕ → List ℕ
resolved_left (Ok _) mark marks = resolved_marks mark marks
resolved_left (Err refused) mark marks = marks

-- over a packed set: the answer, and the set that is left
abbrev pub resolved_set_answer : ℕ → List ℕ → Result Unit Refused
resolved_set_answer n set = resolved_answer n (marks_of n set)

abbrev pub resolved_set : (mark : ℕ) → ℕ → List ℕ → List ℕ
resolved_set mark n set = repacked n set (resolved_left (resolved_set_answer n set) mark (marks_of n set))

-- what `confirm` (with struck) and `withdraw` (with open) ensure: the answer, and the packed set that is left
pub record ResolvedAs (n mark : ℕ) (set : List ℕ) (answer : Result Unit Refused) (left : List ℕ) : Type 0 where
  pub answered : answer ≡ resolved_set_answer n set
  pub set-left : left ≡ resolved_set mark n set
