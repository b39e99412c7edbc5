-- Rows of lengths: the lengths from one point to all points side by side, so that a search over points
-- reads them in order.
use Rattle.std.specs.Prelude.{ℕ, ◌+◌, ◌*◌, ◌≤◌, ◌<◌, ◌≡◌, ◌⊎◌, List, length, get_or}
use Rattle.lengths.specs.Edge.{Point, edge_count}
use Rattle.lengths.specs.Instance.{most_points}
use Rattle.lengths.specs.Table.{length_of}

-- the row of v stands in `rows` from `at` on: the length from v to x at the place at + x
pub record RowAt (n : ℕ) (table rows : List ℕ) (at v : ℕ) : Type 0 where
  pub room : at + n < length rows
  pub each : (x : ℕ) → Point n x → get_or rows (at + x) 0 ≡ length_of n table v x

-- the rows of all points, n + 1 numbers for each
pub record Rows (n : ℕ) (table rows : List ℕ) : Type 0 where
  pub row : (v : ℕ) → Point n v → RowAt n table rows ((n + 1) * v) v

-- what writing the row of v is asked about: a table of n points, and room for n + 1 numbers
pub record RowFillable (n : ℕ) (table rows : List ℕ) (at v : ℕ) : Type 0 where
  pub few : n ≤ most_points
  pub whole : length table ≡ edge_count n
  pub point : Point n v
  pub room : at + n < length rows

-- the numbers from `low` to below `high` of the row are written, and no other
pub record RowPart (n : ℕ) (table rows : List ℕ) (at v low high : ℕ) (r : List ℕ) : Type 0 where
  pub size : length r ≡ length rows
  pub each : (x : ℕ) → low ≤ x → x < high → get_or r (at + x) 0 ≡ length_of n table v x
  pub kept : (i : ℕ) → (i < at + low) ⊎ (at + high ≤ i) → get_or r i 0 ≡ get_or rows i 0

-- what it leaves: the row, and every number before and behind it as it was
pub record RowFilled (n : ℕ) (table rows : List ℕ) (at v : ℕ) (r : List ℕ) : Type 0 where
  pub size : length r ≡ length rows
  pub row : RowAt n table r at v
  pub kept : (i : ℕ) → (i < at) ⊎ (at + n < i) → get_or r i 0 ≡ get_or rows i 0

-- what writing all rows is asked about: a table of n points, and room for the numbers of n + 1 rows
pub record RowsFillable (n : ℕ) (table rows : List ℕ) : Type 0 where
  pub few : n ≤ most_points
  pub whole : length table ≡ edge_count n
  pub room : (n + 1) * (n + 1) ≤ length rows

-- what it leaves
pub record RowsFilled (n : ℕ) (table rows r : List ℕ) : Type 0 where
  pub size : length r ≡ length rows
  pub all : Rows n table r
