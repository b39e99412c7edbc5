-- Reading a text: first the language (19, with its line); then the tests of *measure* for coordinates, and 1, 2 and 5
-- for weights.
use Rattle.std.specs.Prelude.{ℕ, ◌≡◌, List, eqb, length, Result, Ok, Err}
use Rattle.lists.specs.Test.{all_at_most, unless}
use Rattle.endian.specs.Bytes.{bytes32, whole32}
use Rattle.lengths.specs.Edge.{edge_count}
use Rattle.lengths.specs.Instance.{in_range, most_length}
use Rattle.lengths.specs.Measure.{measured, table_after}
use Rattle.lengths.specs.declared.refusal.Refusal.{Refusal}
use Rattle.lengths.specs.declared.refusal.Refusal.TheVariants as refusal
use Rattle.lengths.specs.declared.refusal.Refused.{Refused}
use Rattle.tsplib_lines.specs.TextLine.{TextLine}
use Rattle.tsplib_lines.specs.declared.text_line.Weighing.{Weighing}
use Rattle.tsplib_lines.specs.declared.text_line.Weighing.TheVariants.{Explicit, Rule}
use Rattle.tsplib.specs.Judging.{judged, lines_of}
use Rattle.tsplib.specs.FaultLine.{ToldFirst}
use Rattle.tsplib.specs.Gathering.{gathered}
use Rattle.tsplib.specs.declared.judging.Described.{Described}
use Rattle.tsplib.specs.declared.judging.Fault.{Fault}
use Rattle.tsplib.specs.declared.reading.TextRefused.{TextRefused}

-- a refusal with no line, and the refusal of a text with its line at fault
abbrev pub at_call : Refusal → TextRefused
at_call r = record { refusal = r; line = 0 }

abbrev pub at_line : Fault → TextRefused
at_line f = record { refusal = refusal.Text; line = f.line }

-- the coordinates, two for each node line behind its place; and the weights
abbrev pub coordinates_of : List TextLine → List ℕ
coordinates_of ls = gathered 1 ls

abbrev pub weights_of : List TextLine → List ℕ
weights_of ls = gathered 0 ls

-- the answer of *measure*, with n
unfoldable pub of_measured : ℕ → Result Unit Refused → Result ℕ TextRefused
of_measured n (Ok done) = Ok n
of_measured n (Err r) = Err (at_call r.refusal)

-- tests 1, 2 and 5, of a table of so many entries
unfoldable pub of_weights : ℕ → List ℕ → ℕ → Result ℕ TextRefused
of_weights n ws size =
    unless (in_range n) (Err (at_call refusal.Points))
    (unless (eqb size (edge_count n)) (Err (at_call refusal.Size))
    (unless (all_at_most most_length ws) (Err (at_call refusal.Length))
    (Ok n)))

-- the table that is left: the weights where nothing is refused
abbrev pub filled_with : Result ℕ TextRefused → List ℕ → List ℕ → List ℕ
filled_with (Ok n) ws table = bytes32 ws
filled_with (Err r) ws table = table

-- of a text of the language, by how it is weighed and its data
unfoldable pub answer_for : Weighing → ℕ → List ℕ → ℕ → Result ℕ TextRefused
answer_for (Rule r) n xs size = of_measured n (measured n r xs size)
answer_for Explicit n xs size = of_weights n xs size

unfoldable pub left_for : Weighing → ℕ → List ℕ → List ℕ → List ℕ
left_for (Rule r) n xs table = table_after n r xs table
left_for Explicit n xs table = filled_with (of_weights n xs (length (whole32 table))) xs table

-- the data of lines, by how they are weighed
abbrev pub data_of : Weighing → List TextLine → List ℕ
data_of (Rule r) ls = coordinates_of ls
data_of Explicit ls = weights_of ls

-- and of any text, by what the judge says of it
unfoldable pub read_as : Result Described Fault → List TextLine → ℕ → Result ℕ TextRefused
read_as (Err f) ls size = Err (at_line f)
read_as (Ok d) ls size = answer_for d.weighing d.n (data_of d.weighing ls) size

unfoldable pub left_as : Result Described Fault → List TextLine → List ℕ → List ℕ
left_as (Err f) ls table = table
left_as (Ok d) ls table = left_for d.weighing d.n (data_of d.weighing ls) table

-- what `read_tsplib` ensures: its answer, and the table's bytes that it leaves
pub record ReadAs (text table : List ℕ) (answer : Result ℕ TextRefused) (left : List ℕ) : Type 0 where
  pub answered : answer ≡ read_as (judged text) (lines_of text) (length (whole32 table))
  pub table-left : left ≡ left_as (judged text) (lines_of text) table

-- what `tsplib_points` answers: n, or the line at fault
unfoldable pub points_of : Result Described Fault → Result ℕ TextRefused
points_of (Err f) = Err (at_line f)
points_of (Ok d) = Ok d.n

-- what a reading answers and leaves of a text of the language
pub record ReadOf (n : ℕ) (w : Weighing) (xs table : List ℕ) (answer : Result ℕ TextRefused) (left : List ℕ) : Type 0 where
  pub answered : answer ≡ answer_for w n xs (length (whole32 table))
  pub table-left : left ≡ left_for w n xs table

-- and of a text outside it: 19 with the line told
pub record ReadOutside (text table : List ℕ) (answer : Result ℕ TextRefused) (left : List ℕ) : Type 0 where
  pub line : ℕ
  pub answered : answer ≡ Err (record { refusal = refusal.Text; line = line })
  pub told : ToldFirst text line
  pub untouched : left ≡ table
