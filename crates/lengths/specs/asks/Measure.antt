-- What functions ask of each other about the subject of `specs/Measure.antt`, and what they ensure.
use Rattle.std.specs.Prelude.{ℕ, ◌+◌, ◌-◌, ◌*◌, ◌≤◌, ◌≡◌, List, length}
use Rattle.endian.specs.Bytes.{whole32}
use Rattle.endian.specs.asks.Bytes.{Encoding}
use Rattle.lengths.specs.declared.distance.Rule.{Rule}
use Rattle.lengths.specs.Edge.{edge_count, place_up}
use Rattle.lengths.specs.asks.Edge.{IsEdgeUp}
use Rattle.lengths.specs.Distance.{gap_distance}
use Rattle.lengths.specs.Measure.{x_of, y_of, gap_of, measured_table}
use Rattle.lengths.specs.Instance.{most_coordinate, most_points}
use Rattle.lists.specs.Test.{AtMost}

-- x and y are coordinates, and b is a point whose coordinates are there
pub record Located (cs : List ℕ) (x y b : ℕ) : Type 0 where
  pub x_small : x ≤ most_coordinate
  pub y_small : y ≤ most_coordinate
  pub low : 1 ≤ b
  pub few : b ≤ most_points
  pub there : 2 * b ≤ length cs
  pub small : AtMost most_coordinate cs

-- the distance from the point with the coordinates x and y to the point b
unfoldable pub distance_to : Rule → ℕ → ℕ → List ℕ → ℕ → ℕ
distance_to rule x y cs b = gap_distance rule (gap_of x (x_of cs b)) (gap_of y (y_of cs b))

-- what `fill` is given: at least two points, their coordinates, and the bytes of a table of their edges
pub record Fillable (n : ℕ) (cs table : List ℕ) : Type 0 where
  pub some : 2 ≤ n
  pub few : n ≤ most_points
  pub located : length cs ≡ 2 * n
  pub small : AtMost most_coordinate cs
  pub whole : length (whole32 table) ≡ edge_count n

-- what `measure_row` is given: a point and one above it, the coordinates, the bytes of a table, and the place of the
-- first edge from a upwards
pub record RowToMeasure (n : ℕ) (cs table : List ℕ) (a at : ℕ) : Type 0 where
  pub few : n ≤ most_points
  pub located : length cs ≡ 2 * n
  pub small : AtMost most_coordinate cs
  pub size : length table ≡ 4 * edge_count n
  pub first : IsEdgeUp n a (a + 1)
  pub place : place_up n a (a + 1) ≡ at

-- what it leaves: where the table was measured up to `at`, over whatever bytes, it is now measured to the
-- end of the row of a
pub record RowMeasured (n : ℕ) (rule : Rule) (cs : List ℕ) (a at : ℕ) (table left : List ℕ) : Type 0 where
  pub kept : length left ≡ length table
  pub written : (before : List ℕ) → Encoding 4 (measured_table rule cs n) before table at
      → Encoding 4 (measured_table rule cs n) before left (at + (n - a))
