-- What functions ask of each other about the subject of `specs/Columns.antt`, and what they ensure.
use Rattle.std.specs.Prelude.{ℕ, ◌+◌, ◌≤◌, List, length}
use Rattle.text.specs.Decimal.{decimal}

-- the digits of n have so many columns, and the columns their room
pub record PaddedAsked (width n : ℕ) (out : List ℕ) (at : ℕ) : Type 0 where
  pub digits : length (decimal n) ≤ width
  pub room : at + width ≤ length out

-- so many columns as a value of 32 bits has room for, whatever bytes they are
abbrev pub most_columns : ℕ
most_columns = 7
