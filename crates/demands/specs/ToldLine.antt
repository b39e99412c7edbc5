-- Telling a line (02, Paper 6): which calls tell a text and which are refused, by 01's rules alone.
use Rattle.std.specs.Prelude.{ℕ, ◌≤◌, ◌<◌, ◌≡◌, true, List, Ok, length}
use Rattle.marks.specs.Mark.{open_in}
use Rattle.argument.specs.Line.{Struck, CompleteAt}
use Rattle.argument.specs.Record.{Readable}
use Rattle.argument.specs.Sheet.{Place, line_step}
use Rattle.argument.specs.Verdict.{accepted, refused}
use Rattle.sheets.specs.Rules.{rules_of, marking_of}
use Rattle.sheets.specs.Sheet.{whole_sheet}
use Rattle.admission.specs.Tests.{tested}
use Rattle.reasons.specs.Telling.{Telling, line_text, tell_left}
use Rattle.revosti.specs.Tell.{telling_number}

-- the call passes tests 1, 2, 5, 6, 7 and 8
pub record TellPasses (n : ℕ) (table marks s : List ℕ) (i : ℕ) : Type 0 where
  pub points : tested n table marks ≡ Ok n
  pub whole : whole_sheet (length s) ≡ true
  pub in_sheet : Readable s i

-- where a sheet stands whose first line entered is record i
unfoldable pub first_at : (marks : List ℕ) (i : ℕ) → Place (List ℕ)
first_at marks i = record { marks = marks; lines = 0; last = 0; index = i; high = 0 }

-- what a call behind these tests answers: the text of a complete line, or 22 where the buffer is too short for all of
-- it; "a line that would be refused gets its refusal": number and record are those of marking the line as the first one
-- entered. Open is mark 1, so that a pending edge is read as struck.
pub data TellAnswers (n : ℕ) (table marks s : List ℕ) (i size : ℕ) : Telling → Type 0 where
  told : (x : Struck) → CompleteAt (rules_of n table marks) (open_in n marks) s i x → length (line_text n table marks s i) ≤ size
      → TellAnswers n table marks s i size (accepted (length (line_text n table marks s i)))
  too_long : (x : Struck) → CompleteAt (rules_of n table marks) (open_in n marks) s i x → size < length (line_text n table marks s i)
      → TellAnswers n table marks s i size (refused 22 0)
  not_complete : {number rec : ℕ} → ((x : Struck) → CompleteAt (rules_of n table marks) (open_in n marks) s i x → ⊥)
      → line_step (marking_of n table) s (first_at marks i) ≡ refused number rec → TellAnswers n table marks s i size (refused number rec)

-- what a call of `revosti_tell_line` answers and leaves behind these tests: the number of such an answer, and the text
-- in front of the buffer's other bytes, or the buffer as it was
pub record TellAnswersInC (n : ℕ) (table marks s : List ℕ) (i : ℕ) (buffer : List ℕ) (r : ℕ) (left : List ℕ) : Type 0 where
  pub telling : Telling
  pub answers : TellAnswers n table marks s i (length buffer) telling
  pub numbered : r ≡ telling_number telling
  pub text_left : left ≡ tell_left telling (line_text n table marks s i) buffer
