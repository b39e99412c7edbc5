-- What functions ask of each other about the subject of `specs/Lines.antt`, and what they ensure.
use Rattle.std.specs.Prelude.{ℕ, ◌≤◌, ◌≡◌, List, Ok, Err, length}
use Rattle.lengths.specs.Edge.{edge_count}
use Rattle.lengths.specs.Instance.{most_points}
use Rattle.lengths.specs.Refusal.{refusal_number}
use Rattle.sheets.specs.Verdict.{Verdict}
use Rattle.text.specs.Words.{Room}
use Rattle.report.specs.Lines.{struck_lines}

-- what the last line tells of a verdict: the number of the refusal and its record, 0 and 0 where all was accepted
abbrev pub told : Verdict → ℕ × ℕ
told (Ok lines) = (0, 0)
told (Err stopped) = (refusal_number stopped.refused.refusal, stopped.refused.at)

-- the room that every text of the program fits: `most_edges` lines of at most 15 bytes, and two more
abbrev pub text_room : ℕ
text_room = 262144

abbrev pub Large : List ℕ → Type 0
Large out = text_room ≤ length out

-- what the lines of the strikes ask: a mark for each edge, and room
pub record StrikesAsked (n : ℕ) (marks out : List ℕ) (at : ℕ) : Type 0 where
  pub some : 2 ≤ n
  pub few : n ≤ most_points
  pub marked : length marks ≡ edge_count n
  pub room : Room out at (struck_lines n marks)

-- what all lines ask
pub record LinesAsked (n : ℕ) (marks out : List ℕ) : Type 0 where
  pub some : 2 ≤ n
  pub few : n ≤ most_points
  pub marked : length marks ≡ edge_count n
  pub large : Large out
