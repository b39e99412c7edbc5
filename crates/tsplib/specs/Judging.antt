-- The lines of a text, and the judge of a text: the first line that the language cannot hold, or what the text says.
use Rattle.std.specs.Prelude.{ℕ, ◌+◌, max, true, false, List, [], ◌∷◌, map, eqb, Option, Some, None, Result, Ok, Err}
use Rattle.tsplib_lines.specs.Words.{newline, free}
use Rattle.tsplib_lines.specs.TextLine.{TextLine, line_of, told_of}
use Rattle.tsplib_lines.specs.declared.text_line.TalliedLine as code
use Rattle.tsplib.specs.State.{BodyLine, body-numbers, body-eof, body-other, no_lines, body_of, step_of}
use Rattle.tsplib.specs.declared.state.State.{State}
use Rattle.tsplib.specs.declared.state.State.TheVariants.{Specification, Nodes, Weights, Ended}
use Rattle.tsplib_lines.specs.declared.text_line.Weighing.{Weighing}
use Rattle.tsplib.specs.declared.judging.Described.{Described}
use Rattle.tsplib.specs.declared.judging.Fault.{Fault}

-- the whole lines of a text, and the bytes behind its last newline
abbrev pub with_byte : ℕ → List (List ℕ) → List (List ℕ)
with_byte b [] = []
with_byte b (l ∷ ls) = (b ∷ l) ∷ ls

unfoldable pub whole_lines : List ℕ → List (List ℕ)
whole_lines [] = []
whole_lines (b ∷ t) = elim (eqb b newline) [ true ↦ [] ∷ whole_lines t | false ↦ with_byte b (whole_lines t) ]

unfoldable pub unfinished : List ℕ → List ℕ
unfinished [] = []
unfinished (b ∷ t) = elim (free newline (b ∷ t)) [ true ↦ b ∷ t | false ↦ unfinished t ]

unfoldable pub lines_of : List ℕ → List TextLine
lines_of text = map line_of (whole_lines text)

-- the largest number of a line
abbrev pub maximum_in : BodyLine → ℕ
maximum_in (body-numbers t) = t.maximum
maximum_in body-eof = 0
maximum_in body-other = 0

abbrev pub maximum_of : code.TalliedLine → ℕ
maximum_of line = maximum_in (body_of line)

-- what a text says, and the line at fault
abbrev pub described : ℕ → Weighing → ℕ → Result Described Fault
described n w m = Ok (record { n = n; weighing = w; maximum = m })

abbrev pub fault : ℕ → Result Described Fault
fault line = Err (record { line = line })

-- the end of the lines, after so many: "one past the last whole line" is told unless EOF was the last and nothing
-- stands behind it
abbrev pub judged_end : State → ℕ → ℕ → List ℕ → Result Described Fault
judged_end (Specification h) k m rest = fault (k + 1)
judged_end (Nodes n r j) k m rest = fault (k + 1)
judged_end (Weights n left) k m rest = fault (k + 1)
judged_end (Ended n w) k m [] = described n w m
judged_end (Ended n w) k m (b ∷ rest) = fault (k + 1)

abbrev pub go_on : Option State → ℕ → (State → Result Described Fault) → Result Described Fault
go_on (Some s) k on = on s
go_on None k on = fault (k + 1)

-- from a state on, after k lines whose largest number is m
unfoldable pub judged_from : State → ℕ → ℕ → List TextLine → List ℕ → Result Described Fault
judged_from s k m [] rest = judged_end s k m rest
judged_from s k m (l ∷ ls) rest =
    go_on (step_of s (told_of l)) k (λ (t : State). judged_from t (k + 1) (max m (maximum_of (told_of l))) ls rest)

-- n, how it is weighed and the largest number; or the line at fault
unfoldable pub judged : List ℕ → Result Described Fault
judged text = judged_from no_lines 0 0 (lines_of text) (unfinished text)
