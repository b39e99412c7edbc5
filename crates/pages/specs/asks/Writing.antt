-- What functions ask of each other about the subject of `specs/Writing.antt`, and what they ensure.
use Rattle.std.specs.Prelude.{ℕ, ◌+◌, ◌*◌, ◌≤◌, ◌≡◌, List, length}
use Rattle.lengths.specs.Edge.{edge_count}
use Rattle.lengths.specs.Table.{Lengths}
use Rattle.pages.specs.PageLine.{line_bytes}
use Rattle.pages.specs.Page.{place_line, joined}
use Rattle.pages.specs.asks.Page.{PartAsked}

-- the lines of so many edges, from the one at a place on
abbrev pub lines_from : ℕ → (lengths marks : List ℕ) → (first lines : ℕ) → List ℕ
lines_from n lengths marks first lines = joined (λ k. place_line n lengths marks (first + k)) lines

-- what the lines of a page ask: lengths and marks of n points, and room
pub record LinesAsked (n : ℕ) (lengths marks : List ℕ) (first lines : ℕ) (out : List ℕ) : Type 0 where
  pub part : PartAsked n first lines
  pub within : Lengths n lengths
  pub marked : length marks ≡ edge_count n
  pub room : line_bytes * lines ≤ length out
