-- The length between two points by a table (01, "Points, lengths, marks").
use Rattle.std.specs.Prelude.{ℕ, ◌≤◌, ◌≡◌, true, false, List, eqb, length, get_or}
use Rattle.endian.specs.Bytes.{whole32}
use Rattle.lengths.specs.Edge.{edge_count, place}
use Rattle.lengths.specs.Instance.{most_length, most_points}

-- the length between a and b: what stands at the place of ab, and 0 from a point to itself
unfoldable pub length_of : ℕ → List ℕ → ℕ → ℕ → ℕ
length_of n table a b = elim (eqb a b) [ true ↦ 0 | false ↦ get_or table (place n a b) 0 ]

-- the same by the bytes of a table
abbrev pub length_in : ℕ → (bytes : List ℕ) → ℕ → ℕ → ℕ
length_in n bytes = length_of n (whole32 bytes)

-- a table of an instance's size, no length above its limit (01, "Points, lengths, marks")
pub record Lengths (n : ℕ) (table : List ℕ) : Type 0 where
  pub few : n ≤ most_points
  pub whole : length table ≡ edge_count n
  pub small : (i : ℕ) → get_or table i 0 ≤ most_length

-- two such tables, of what is taken out and of what is put in: an interval of lengths for each edge (02, Paper 11: low
-- and high); one table is both
pub record Intervals (n : ℕ) (out put : List ℕ) : Type 0 where
  pub out_lengths : Lengths n out
  pub put_lengths : Lengths n put
  pub order : (a b : ℕ) → length_of n out a b ≤ length_of n put a b
