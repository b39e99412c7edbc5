-- What functions ask of each other about the subject of `specs/Numbers.antt`.
use Rattle.std.specs.Prelude.{ℕ, ◌+◌, ◌^◌, ◌<◌, Option, Some, None}
use Rattle.tsplib_lines.specs.declared.numbers.Tally.{Tally}
use Rattle.tsplib_lines.specs.declared.numbers.Sweep.{Sweep}

-- how many numbers are begun and not counted
abbrev pub open_of : Option ℕ → ℕ
open_of None = 0
open_of (Some v) = 1

-- one number more can be counted
pub record Countable (t : Tally) : Type 0 where
  pub room : t.count + 1 < 2 ^ 64

-- the number that is begun, if one is, can be counted
pub record Sweepable (s : Sweep) : Type 0 where
  pub room : s.tally.count + open_of s.begun < 2 ^ 64
