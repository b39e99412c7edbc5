-- What functions ask of each other about the subject of `specs/Tour.antt`, and what they ensure.
use Rattle.std.specs.Prelude.{ℕ, ◌≤◌, ◌≡◌, true, List, length}
use Rattle.lengths.specs.Edge.{edge_count}
use Rattle.lengths.specs.Instance.{least_points, most_points}
use Rattle.tour_check.specs.Tour.{is_tour}

-- a tour of an instance's points, and a table or marks with a place for each edge
pub record TourAsked (n : ℕ) (places t : List ℕ) : Type 0 where
  pub few : n ≤ most_points
  pub some : least_points ≤ n
  pub whole : length places ≡ edge_count n
  pub tour : is_tour n t ≡ true
