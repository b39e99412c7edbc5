-- What functions ask of each other about the subject of `specs/Header.antt`, and what they ensure.
use Rattle.std.specs.Prelude.{ℕ, ◌≤◌, List, length}
use Rattle.report.specs.Header.{header_bytes}

-- what `number_in` asks: the eight bytes are there
pub record NumberAsked (file : List ℕ) (i : ℕ) : Type 0 where
  pub long : header_bytes ≤ length file
  pub first_two : i ≤ 1
