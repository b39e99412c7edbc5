-- What the tests that the operations share leave.
use Rattle.std.specs.Prelude.{ℕ, ◌≤◌, ◌≡◌, List, length}
use Rattle.lengths.specs.Edge.{edge_count}
use Rattle.lengths.specs.Instance.{least_points}
use Rattle.lengths.specs.Table.{Intervals}

-- two tables and marks of n points: one table may be both
pub record Listable (n : ℕ) (out put marks : List ℕ) : Type 0 where
  pub least : least_points ≤ n
  pub intervals : Intervals n out put
  pub marked : length marks ≡ edge_count n
