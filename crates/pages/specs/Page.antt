-- The pages of the wall list (02, Paper 12): "pages of 60 lines, the last with what is left, edges in order".
use Rattle.std.specs.Prelude.{
  ℕ,
  zero,
  suc,
  ◌+◌,
  ◌-◌,
  ◌*◌,
  ◌/◌,
  min,
  Bool,
  ◌&&◌,
  List,
  [],
  ◌++◌,
  Result,
  Ok,
  Err,
  leb,
  get_or,
  take,
  drop,
}
use Rattle.lists.specs.Test.{unless}
use Rattle.lengths.specs.Edge.{Edge, edge, edges, edge_count}
use Rattle.marks.specs.Mark.{mark_at}
use Rattle.pages.specs.PageLine.{line_text}
use Rattle.lengths.specs.declared.refusal.Refusal.{Refusal}
use Rattle.lengths.specs.declared.refusal.Refusal.TheVariants as why
use Rattle.pages.specs.declared.page.PageLines.{PageLines}

abbrev pub most_lines : ℕ
most_lines = 60

-- as many pages as 60 lines each take
unfoldable pub page_count : ℕ → ℕ
page_count n = (edge_count n + (most_lines - 1)) / most_lines

-- "26, page number 0 or past the last"
unfoldable pub is_page : (n p : ℕ) → Bool
is_page n p = leb 1 p && leb p (page_count n)

-- the place of the first edge of page p, and how many lines the page has
unfoldable pub first_place : ℕ → ℕ
first_place p = most_lines * (p - 1)

unfoldable pub page_lines : (n p : ℕ) → ℕ
page_lines n p = min most_lines (edge_count n - first_place p)

-- the part of a list, one number an edge, that page p tells
abbrev pub part_of : (n p : ℕ) → List ℕ → List ℕ
part_of n p xs = take (page_lines n p) (drop (first_place p) xs)

-- what test 26 answers: the place of the page's first edge and the number of its lines, or the refusal
abbrev pub lines_at : (first lines : ℕ) → PageLines
lines_at first lines = record { first = first; lines = lines }

unfoldable pub page_of : (n p : ℕ) → Result PageLines Refusal
page_of n p = unless (is_page n p) (Err why.Page) (Ok (lines_at (first_place p) (page_lines n p)))

-- the edge at a place, from 0, of 01's order
unfoldable pub edge_at : (n i : ℕ) → Edge
edge_at n i = get_or (edges n) i (edge 0 0)

abbrev pub edge_line : Edge → (len mark : ℕ) → List ℕ
edge_line (edge a b) len mark = line_text a b len mark

-- the line of the edge at a place
unfoldable pub place_line : ℕ → (lengths marks : List ℕ) → ℕ → List ℕ
place_line n lengths marks i = edge_line (edge_at n i) (get_or lengths i 0) (mark_at marks i)

-- k lists, the first f 0, one after another
unfoldable pub joined : (ℕ → List ℕ) → ℕ → List ℕ
joined f zero = []
joined f (suc k) = joined f k ++ f k

-- page p: the lines of its edges, in edge order
unfoldable pub page_text : (n p : ℕ) → (lengths marks : List ℕ) → List ℕ
page_text n p lengths marks = joined (λ k. place_line n lengths marks (first_place p + k)) (page_lines n p)
