-- "Confirm" and "withdraw" for C: the refusal number or 0, and the packed set that is left.
use Rattle.std.specs.Prelude.{ℕ, ◌≡◌, List}
use Rattle.marks.specs.Pending.{resolved_set_answer, resolved_set}
use Rattle.revosti.specs.Outcome.{outcome_number}

-- what `revosti_confirm` (with struck) and `revosti_withdraw` (with open) ensure: the answer, and the packed set that
-- is left
pub record ResolvedInC (mark n : ℕ) (set : List ℕ) (r : ℕ) (left : List ℕ) : Type 0 where
  pub answered : r ≡ outcome_number (resolved_set_answer n set)
  pub set-left : left ≡ resolved_set mark n set
