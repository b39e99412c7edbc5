-- What the program prints for the bytes of its input (01, "Layers and program"), and what `report` ensures.
use Rattle.std.specs.Prelude.{ℕ, ◌≤◌, ◌≡◌, List, ◌++◌, Option, Some, None, Result, Ok, Err, length, take, drop}
use Rattle.lengths.specs.Distance.{rule_of}
use Rattle.lengths.specs.Instance.{most_coordinate}
use Rattle.lengths.specs.Measure.{measured_table}
use Rattle.lists.specs.Test.{unless, all_at_most}
use Rattle.lengths.specs.Refusal.{refusal_number}
use Rattle.lengths.specs.declared.distance.Rule.{Rule}
use Rattle.lengths.specs.declared.refusal.Refusal.{Refusal}
use Rattle.argument.specs.Verdict.{Verdict, accepted, refused}
use Rattle.argument.specs.Sheet.{Result as Marked}
use Rattle.marks.specs.Fresh.{fresh_marks}
use Rattle.marking.specs.Mark.{mark_sheet}
use Rattle.report.specs.Header.{header_of, coordinates_in, records_in}
use Rattle.report.specs.Lines.{last_line, all_lines}
use Rattle.report.specs.declared.header.Header.{Header}

-- all lines for what marking a sheet came to: its number and record, or 0 and 0
abbrev pub lines_for : ℕ → Verdict (Unit {0}) → List ℕ → List ℕ
lines_for n (accepted u) marks = all_lines n 0 0 marks
lines_for n (refused number rec) marks = all_lines n number rec marks

unfoldable pub marked_text : ℕ → Marked (List ℕ) → List ℕ
marked_text n result = lines_for n result.verdict result.marks

-- tests 3 and 4; then the records are marked, from fresh marks on, by the table of the coordinates
abbrev pub text_by : Option Rule → ℕ → List ℕ → List ℕ → List ℕ
text_by None n coordinates records = last_line 3
text_by (Some rule) n coordinates records =
    unless (all_at_most most_coordinate coordinates) (last_line 4)
    (marked_text n (mark_sheet n (measured_table rule coordinates n) (fresh_marks n) records))

unfoldable pub measured_text : ℕ → ℕ → List ℕ → List ℕ → List ℕ
measured_text rule n coordinates records = text_by (rule_of rule) n coordinates records

-- the tests of the file stand first
abbrev pub text_for : Result Header Refusal → List ℕ → List ℕ
text_for (Err refusal) file = last_line (refusal_number refusal)
text_for (Ok h) file = measured_text h.rule h.points (coordinates_in h.points file) (records_in h.points file)

-- the bytes that the program prints for the bytes of its input
unfoldable pub output_of : List ℕ → List ℕ
output_of file = text_for (header_of file) file

-- what `report` ensures: in the buffer the text stands in front, r bytes long, and the bytes past it are as they
-- were; the last two are what a caller that lends the text asks
pub record Reported (file out : List ℕ) (r : ℕ) (left : List ℕ) : Type 0 where
  pub whole : left ≡ output_of file ++ drop r out
  pub size : r ≡ length (output_of file)
  pub room : r ≤ length left
  pub part : r ≡ length (take r left)
