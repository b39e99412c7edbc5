-- What functions ask of each other about the subject of `specs/Reading.antt`, and what they ensure.
use Rattle.std.specs.Prelude.{ℕ, ◌+◌, ◌*◌, ◌≤◌, ◌<◌, ◌≡◌, true, List, length}
use Rattle.lengths.specs.Edge.{edge_count}
use Rattle.lengths.specs.Instance.{most_edges}
use Rattle.marks.specs.Packed.{well_packed, marks_of}
use Rattle.pages.specs.PageLine.{line_bytes}
use Rattle.pages.specs.Page.{most_lines}
use Rattle.pages.specs.Reading.{marks_read, overlay}
use Rattle.pages.specs.asks.PageLine.{ShortPoints}

-- a line of a page
pub record LineOfAsked (a b k : ℕ) : Type 0 where
  pub points : ShortPoints a b
  pub few : k < most_lines

-- what storing is asked about: so many whole lines, and a place for each
pub record StoreAsked (text : List ℕ) (first lines places : ℕ) : Type 0 where
  pub most : lines ≤ most_lines
  pub few : first + lines ≤ most_edges
  pub whole : line_bytes * lines ≤ length text
  pub inside : first + lines ≤ places

-- what storing the marks leaves: of whatever points the packed set is, the marks that were read at their places, the
-- others as they were
pub record MarksStored (text : List ℕ) (first lines : ℕ) (set left : List ℕ) : Type 0 where
  pub kept : length left ≡ length set
  pub stored : (n : ℕ) → well_packed n set ≡ true → first + lines ≤ edge_count n
      → marks_of n left ≡ overlay first (marks_read text lines) (marks_of n set)
