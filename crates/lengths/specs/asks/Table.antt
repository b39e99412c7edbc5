-- What functions ask of each other about the subject of `specs/Table.antt`, and what they ensure.
use Rattle.std.specs.Prelude.{ℕ, ◌^◌, ◌<◌, ◌≡◌, List, length}
use Rattle.lengths.specs.Edge.{Point, edge_count}
use Rattle.lengths.specs.Table.{length_of}

-- a and b are points, and the table is one of n points
pub record Spans (n : ℕ) (table : List ℕ) (a b : ℕ) : Type 0 where
  pub first : Point n a
  pub second : Point n b
  pub whole : length table ≡ edge_count n

-- what `length_between` answers: the length, of 32 bits, so that no sum of a few of them wraps
pub record LengthIs (n : ℕ) (table : List ℕ) (a b r : ℕ) : Type 0 where
  pub at : r ≡ length_of n table a b
  pub bits : r < 2 ^ 32
