-- What functions ask of each other about the subject of `specs/Telling.antt`, and what they ensure.
use Rattle.std.specs.Prelude.{ℕ, ◌+◌, ◌*◌, ◌≤◌, ◌≡◌, ◌&&◌, List, Result, Ok, Err, leb, length}
use Rattle.lists.specs.Test.{unless}
use Rattle.marks.specs.Mark.{open_in}
use Rattle.argument.specs.Record.{records, Readable}
use Rattle.argument.specs.Line.{Struck, judge}
use Rattle.argument.specs.Verdict.{Verdict, refused}
use Rattle.sheets.specs.Rules.{rules_of}
use Rattle.sheets.specs.asks.Walk.{Admitted}
use Rattle.reasons.specs.Telling.{line_text, telling_of, tell_judged, tell_left}
use Rattle.lengths.specs.Refusal.{refuse}
use Rattle.lengths.specs.declared.refusal.Refusal.TheVariants as why
use Rattle.lengths.specs.declared.refusal.Refused.{Refused}

-- a record of a sheet that passed the tests with its instance
pub record JudgeAsked (n : ℕ) (table marks sheet : List ℕ) (count i : ℕ) : Type 0 where
  pub admitted : Admitted n table table marks sheet count
  pub readable : Readable sheet i

-- and there is room for the rows of lengths
pub record JudgeRows (n : ℕ) (table rows marks sheet : List ℕ) (count i : ℕ) : Type 0 where
  pub asked : JudgeAsked n table marks sheet count i
  pub room : (n + 1) * (n + 1) ≤ length rows

-- what judging record i by itself answers
abbrev pub judged_at : ℕ → (table marks s : List ℕ) → (i : ℕ) → Verdict Struck
judged_at n table marks s i = judge (rules_of n table marks) (open_in n marks) s i

-- what telling a text ensures: 22 where the buffer is too short for all of it
pub record TextTold (text buffer : List ℕ) (answer : Result ℕ Refused) (left : List ℕ) : Type 0 where
  pub answered : answer ≡ unless (leb (length text) (length buffer)) (refuse why.Buffer) (Ok (length text))
  pub text_left : left ≡ tell_left (telling_of answer) text buffer

-- what telling a record ensures, of a sheet that passed the tests with its instance
pub record RecordTold (n : ℕ) (table marks s : List ℕ) (i : ℕ) (buffer : List ℕ) (answer : Result ℕ Refused) (left : List ℕ) : Type 0 where
  pub answered : telling_of answer ≡ unless (leb 1 i && leb i (records s)) (refused 8 0)
      (tell_judged (judged_at n table marks s i) (line_text n table marks s i) (length buffer))
  pub text_left : left ≡ tell_left (telling_of answer) (line_text n table marks s i) buffer
