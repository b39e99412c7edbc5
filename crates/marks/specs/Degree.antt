-- How many open edges a point has (02, Paper 9: "every point then has at least two open edges").
use Rattle.std.specs.Prelude.{ℕ, Bool, not, ◌&&◌, List, eqb}
use Rattle.lists.specs.CountFrom.{count_from}
use Rattle.marks.specs.Mark.{open_in}

-- w is another point than v, and the edge between them is open
abbrev pub open_to : ℕ → List ℕ → ℕ → ℕ → Bool
open_to n marks v w = not (eqb v w) && open_in n marks v w

-- how many of the points 1 to n have an open edge to v
unfoldable pub open_degree : ℕ → List ℕ → ℕ → ℕ
open_degree n marks v = count_from (open_to n marks v) 1 n
