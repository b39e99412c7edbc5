-- What functions ask of each other about the subject of `specs/Decimal.antt`, and what they ensure.
use Rattle.std.specs.Prelude.{ℕ, ◌<◌, List, length}

-- what writing a digit asks
pub record DigitAsked (out : List ℕ) (at d : ℕ) : Type 0 where
  pub small : d < 10
  pub inside : at < length out
