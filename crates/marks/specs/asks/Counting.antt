-- How many edges are open.
use Rattle.std.specs.Prelude.{ℕ, ◌≤◌, ◌≡◌, List, length}
use Rattle.lengths.specs.Edge.{edge_count}
use Rattle.lengths.specs.Instance.{most_points}
use Rattle.marks.specs.Mark.{open_count}

-- marks of n points, no more than a u16 counts
pub record CountAsked (n : ℕ) (marks : List ℕ) : Type 0 where
  pub few : n ≤ most_points
  pub whole : length marks ≡ edge_count n

-- so many marks are open, and no more than there are
pub record OpenIs (marks : List ℕ) (r : ℕ) : Type 0 where
  pub counted : r ≡ open_count marks
  pub few : r ≤ length marks
