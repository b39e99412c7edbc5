-- What functions ask of each other about the subject of `specs/Page.antt`, and what they ensure.
use Rattle.std.specs.Prelude.{ℕ, ◌+◌, ◌≤◌, ◌<◌}
use Rattle.lengths.specs.Edge.{edge_count}
use Rattle.lengths.specs.Instance.{most_points}
use Rattle.pages.specs.Page.{most_lines}

-- a place among the edges of n points
pub record PlaceAsked (n at : ℕ) : Type 0 where
  pub some : 2 ≤ n
  pub few : n ≤ most_points
  pub inside : at < edge_count n

-- the lines of a page of n points: there is one, and its edges are theirs
pub record PartAsked (n first lines : ℕ) : Type 0 where
  pub points : 2 ≤ n
  pub few : n ≤ most_points
  pub some : 1 ≤ lines
  pub most : lines ≤ most_lines
  pub inside : first + lines ≤ edge_count n
