-- "Fresh marks" for C: the refusal number or 0, and the packed set that is left.
use Rattle.std.specs.Prelude.{ℕ, ◌≡◌, List, length}
use Rattle.marks.specs.Fresh.{fresh_set_answer, fresh_set_left}
use Rattle.revosti.specs.Outcome.{outcome_number}

-- what `revosti_fresh_marks` ensures: its answer, and the packed set that it leaves
pub record FreshInC (n : ℕ) (set : List ℕ) (r : ℕ) (left : List ℕ) : Type 0 where
  pub answered : r ≡ outcome_number (fresh_set_answer n (length set))
  pub set-left : left ≡ fresh_set_left (fresh_set_answer n (length set)) n set
