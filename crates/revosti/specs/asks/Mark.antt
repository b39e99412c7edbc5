-- What functions ask of each other about the subject of `specs/Mark.antt`, and what they ensure.
use Rattle.std.specs.Prelude.{ℕ, ◌^◌, ◌<◌, ◌≡◌, List}
use Rattle.sheets.specs.Verdict.{Verdict, result_of}
use Rattle.revosti.specs.Mark.{result_number}

-- the verdict's number, whatever marks are left, which has 40 bits
pub record MarkNumber (v : Verdict) (r : ℕ) : Type 0 where
  pub number : (left : List ℕ) → r ≡ result_number (result_of v left)
  pub small : r < 2 ^ 40
