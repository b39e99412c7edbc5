-- The operation "measure" (01, "Each operation and its refusals"): coordinates into a table.
use Rattle.std.specs.Prelude.{ℕ, ◌+◌, ◌-◌, ◌*◌, ◌≡◌, List, map, eqb, length, get_or, Option, None, Some, is_some, Result, Ok, Err}
use Rattle.endian.specs.Bytes.{bytes32, whole32}
use Rattle.lengths.specs.Distance.{gap_distance, rule_of}
use Rattle.lengths.specs.Edge.{Edge, edge, edges, edge_count}
use Rattle.lengths.specs.Instance.{in_range, most_coordinate}
use Rattle.lists.specs.Test.{all_at_most, unless}
use Rattle.lengths.specs.declared.distance.Rule.{Rule}
use Rattle.lengths.specs.Refusal.{refuse}
use Rattle.lengths.specs.declared.refusal.Refusal.TheVariants as refusal
use Rattle.lengths.specs.declared.refusal.Refused.{Refused}

-- the coordinates of point a: x and y of point 1 stand first, then those of point 2
unfoldable pub x_of : List ℕ → ℕ → ℕ
x_of coordinates a = get_or coordinates (2 * (a - 1)) 0

unfoldable pub y_of : List ℕ → ℕ → ℕ
y_of coordinates a = get_or coordinates (2 * (a - 1) + 1) 0

-- the difference of two numbers, whichever is larger
unfoldable pub gap_of : ℕ → ℕ → ℕ
gap_of a b = (a - b) + (b - a)

-- the two coordinate differences of the points a and b
unfoldable pub x_gap : List ℕ → ℕ → ℕ → ℕ
x_gap cs a b = gap_of (x_of cs a) (x_of cs b)

unfoldable pub y_gap : List ℕ → ℕ → ℕ → ℕ
y_gap cs a b = gap_of (y_of cs a) (y_of cs b)

-- the distance of an edge's points
unfoldable pub edge_distance : Rule → List ℕ → Edge → ℕ
edge_distance rule cs (edge a b) = gap_distance rule (x_gap cs a b) (y_gap cs a b)

-- the table of n points: the distance of each edge, in 01's order
unfoldable pub measured_table : Rule → List ℕ → ℕ → List ℕ
measured_table rule cs n = map (edge_distance rule cs) (edges n)

-- 01's tests in their order: n, the two sizes, the rule, the coordinates
unfoldable pub measured : ℕ → ℕ → List ℕ → ℕ → Result Unit Refused
measured n rule cs size =
    unless (in_range n) (refuse refusal.Points)
    (unless (eqb (length cs) (2 * n)) (refuse refusal.Size)
    (unless (eqb size (edge_count n)) (refuse refusal.Size)
    (unless (is_some (rule_of rule)) (refuse refusal.Rule)
    (unless (all_at_most most_coordinate cs) (refuse refusal.Coordinate)
    (Ok tt)))))

-- the table's bytes that are left: those of the lengths where nothing is refused, else as they were
abbrev pub left_by : Result Unit Refused → Option Rule → ℕ → List ℕ → List ℕ → List ℕ
left_by (Err refused) named n cs table = table
left_by (Ok _) (Some rule) n cs table = bytes32 (measured_table rule cs n)
left_by (Ok _) None n cs table = table

unfoldable pub table_after : ℕ → ℕ → List ℕ → List ℕ → List ℕ
table_after n rule cs table = left_by (measured n rule cs (length (whole32 table))) (rule_of rule) n cs table

-- what `measure` ensures of the coordinates that its bytes are: its answer, and the table's bytes that it leaves
pub record MeasuredAs (n rule : ℕ) (cs table : List ℕ) (answer : Result Unit Refused) (left : List ℕ) : Type 0 where
  pub answered : answer ≡ measured n rule cs (length (whole32 table))
  pub table-left : left ≡ table_after n rule cs table
