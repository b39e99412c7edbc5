-- Distances known within limits (02, Paper 11): "for every table whose lengths lie between the two, ends included".
use Rattle.std.specs.Prelude.{ℕ, ◌≤◌, List, get_or}

-- no length is below the low one at its place, and none above the high one
pub record Between (low high table : List ℕ) : Type 0 where
  pub from_low : (i : ℕ) → get_or low i 0 ≤ get_or table i 0
  pub to_high : (i : ℕ) → get_or table i 0 ≤ get_or high i 0
