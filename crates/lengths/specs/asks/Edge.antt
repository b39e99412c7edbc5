-- What functions ask of each other about the subject of `specs/Edge.antt`, and what they ensure.
use Rattle.std.specs.Prelude.{ℕ, ◌+◌, ◌≤◌, ◌<◌, ◌≡◌}
use Rattle.lengths.specs.Edge.{edge_count, place_up, place}

-- ab is an edge, and a its lower point
pub record IsEdgeUp (n a b : ℕ) : Type 0 where
  pub low : 1 ≤ a
  pub up : a < b
  pub high : b ≤ n

-- a cursor over the edges: ab is the edge at the place, or the places are all done
pub record Cursor (n at a b : ℕ) : Type 0 where
  pub here : at < edge_count n → IsEdgeUp n a b × (place_up n a b ≡ at)

-- what `following` answers: the edge at the place behind that of ab
pub record Follows (n a b low high : ℕ) : Type 0 where
  pub next : (at : ℕ) → place_up n a b ≡ at → Cursor n (at + 1) low high

-- what `place` answers: the place of ab, which lies in a table of n points
pub record Placed (n a b r : ℕ) : Type 0 where
  pub at : r ≡ place n a b
  pub inside : r < edge_count n
