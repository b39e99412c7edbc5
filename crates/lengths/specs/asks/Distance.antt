-- What functions ask of each other about the subject of `specs/Distance.antt`, and what they ensure.
use Rattle.std.specs.Prelude.{ℕ, ◌+◌, ◌-◌, ◌^◌, ◌≤◌, ◌<◌, ◌≡◌, Bool, true, false}
use Rattle.lengths.specs.Instance.{most_length, most_squares}
use Rattle.lengths.specs.declared.distance.Root.{Root}
use Rattle.lengths.specs.declared.distance.Root.TheVariants.{Euc2d, Ceil2d}
use Rattle.lengths.specs.declared.distance.Rounding.{Rounding}
use Rattle.lengths.specs.declared.distance.Rounding.TheVariants.{Nearest, Up}
use Rattle.lengths.specs.declared.distance.Rule.{Rule}
use Rattle.lengths.specs.Distance.{passes, distance_by, gap_distance}

-- the rule that rounds a root so and does nothing else
unfoldable pub rounded_by : Rounding → Root
rounded_by Nearest = Euc2d
rounded_by Up = Ceil2d

-- what a test is asked about: a sum of squares of an instance, and a number of 21 bits
pub record Measurable (s d : ℕ) : Type 0 where
  pub sum : s ≤ most_squares
  pub bits : d < 2 ^ 21

-- what `distance` answers
pub record Distance (root : Root) (s d : ℕ) : Type 0 where
  pub at : d ≡ distance_by root s
  pub bits : d < 2 ^ 21

-- the guess is the least number that passes or one below it: one below the guess fails, one above it passes
pub record Close (root : Root) (s guess : ℕ) : Type 0 where
  pub low : 1 ≤ guess
  pub high : guess ≤ most_length
  pub failed : passes root s (guess - 1) ≡ false
  pub passed : passes root s (guess + 1) ≡ true

-- how far to go on from a number whose test answers so
unfoldable pub step_from : Bool → ℕ
step_from true = 0
step_from false = 1

-- what a step of Newton's iteration is asked about: a sum of squares, and a divisor
pub record NewtonAsked (s x : ℕ) : Type 0 where
  pub sum : s ≤ most_squares
  pub some : 1 ≤ x
  pub high : x ≤ most_squares + 1

-- what `gap_distance` answers
pub record GapDistance (rule : Rule) (dx dy d : ℕ) : Type 0 where
  pub at : d ≡ gap_distance rule dx dy
  pub bits : d < 2 ^ 21
