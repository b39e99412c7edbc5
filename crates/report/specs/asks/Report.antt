-- What functions ask of each other about the subject of `specs/Report.antt`, and what they ensure.
use Rattle.std.specs.Prelude.{ℕ, ◌+◌, ◌*◌, ◌≤◌, ◌≡◌, true, List, length}
use Rattle.endian.specs.Bytes.{whole32}
use Rattle.lengths.specs.Edge.{edge_count}
use Rattle.lengths.specs.Instance.{in_range}
use Rattle.marks.specs.Packed.{packed_size}
use Rattle.report.specs.Header.{header_bytes, point_bytes}
use Rattle.report.specs.asks.Lines.{Large}

-- what marking the records asks: a packed set of n points, and room
pub record MarkingAsked (n : ℕ) (marks out : List ℕ) : Type 0 where
  pub range : in_range n ≡ true
  pub marked : length marks ≡ packed_size n
  pub large : Large out

-- what an instance whose header was read asks: its bytes, a length and a mark for each edge, and room
pub record InstanceAsked (n : ℕ) (file out : List ℕ) : Type 0 where
  pub range : in_range n ≡ true
  pub whole : header_bytes + point_bytes * n ≤ length file
  pub large : Large out

pub record Places (n : ℕ) (table marks : List ℕ) : Type 0 where
  pub measured : length (whole32 table) ≡ edge_count n
  pub marked : length marks ≡ packed_size n
