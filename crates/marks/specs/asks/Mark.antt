-- What functions ask of each other about the subject of `specs/Mark.antt`, and what they ensure.
use Rattle.std.specs.Prelude.{ℕ, ◌*◌, ◌≤◌, ◌<◌, ◌≡◌, List, length}
use Rattle.lengths.specs.Edge.{IsEdge, edge_count}
use Rattle.marks.specs.Mark.{set_mark, pending_mark}
use Rattle.marks.specs.Packed.{marks_of}

-- a place of a packed set, and a mark that is to be written there
pub record MarkAtAsked (set : List ℕ) (at mark : ℕ) : Type 0 where
  pub inside : at < 4 * length set
  pub is_mark : mark ≤ pending_mark

-- what is left: of whatever points the packed set is, its marks with this one written
pub record MarkSet (set : List ℕ) (at mark : ℕ) (left : List ℕ) : Type 0 where
  pub kept : length left ≡ length set
  pub written : (n : ℕ) → length (marks_of n set) ≡ edge_count n → at < edge_count n → marks_of n left ≡ set_mark (marks_of n set) at mark

-- ab is an edge, and the marks are those of n points
pub record MarkAsked (n : ℕ) (marks : List ℕ) (a b : ℕ) : Type 0 where
  pub is-edge : IsEdge n a b
  pub whole : length marks ≡ edge_count n

-- and what is written is a mark
pub record SetAsked (n : ℕ) (marks : List ℕ) (a b mark : ℕ) : Type 0 where
  pub asked : MarkAsked n marks a b
  pub is_mark : mark ≤ pending_mark
