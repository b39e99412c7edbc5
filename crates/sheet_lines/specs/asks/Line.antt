-- One line and the lines of a sheet: the declared answers in terms of the argument layer's verdicts, and what
-- the functions ask.
use Rattle.std.specs.Prelude.{ℕ, suc, ◌≤◌, ◌≡◌, List, length, Option, Some, None, Result, Ok, Err}
use Rattle.lengths.specs.Refusal.{refusal_number}
use Rattle.lengths.specs.declared.refusal.Refused.{Refused}
use Rattle.argument.specs.Verdict.{Verdict, accepted, refused}
use Rattle.argument.specs.Line.{Struck, strikes}
use Rattle.argument.specs.Sheet.{Place, LineStep, over, onward, line_step}
use Rattle.marks.specs.Mark.{pending_mark}
use Rattle.sheets.specs.Rules.{marking_between}
use Rattle.sheets.specs.Sheet.{Readable}
use Rattle.sheets.specs.asks.Walk.{Tried}
use Rattle.sheet_lines.specs.declared.line.Strike.{Strike}

abbrev pub judged_of : Result Strike Refused → Verdict Struck
judged_of (Ok s) = accepted (strikes s.a s.b s.next s.high)
judged_of (Err r) = refused (refusal_number r.refusal) r.at

-- what is asked of a line that was entered as record i
pub record LineAsked (n : ℕ) (out put outrows putrows marks sheet : List ℕ) (count i : ℕ) : Type 0 where
  pub tried : Tried n out put outrows putrows marks sheet count
  pub readable : Readable sheet i

-- what is asked of the lines of a sheet, which write the mark `mark`
pub record MarkingAsked (mark n : ℕ) (out put outrows putrows marks sheet : List ℕ) (count : ℕ) : Type 0 where
  pub tried : Tried n out put outrows putrows marks sheet count
  pub is_mark : mark ≤ pending_mark

-- where the lines stand: the marks, the lines accepted, the record that has the index, the index, the
-- highest record entered
abbrev pub place_of : List ℕ → (lines last index high : ℕ) → Place (List ℕ)
place_of marks lines last index high = record { marks = marks; lines = lines; last = last; index = index; high = high }

-- the declared answer for a line, with the marks that are left, as what a step from p comes to
abbrev pub stepped_of : Place (List ℕ) → Result (Option Strike) Refused → List ℕ → Verdict (LineStep (List ℕ))
stepped_of p (Ok None) left = accepted over
stepped_of p (Ok (Some s)) left = accepted (onward (place_of left (suc p.lines) p.index s.next s.high))
stepped_of p (Err r) left = refused (refusal_number r.refusal) r.at

-- the marks after a step from p: changed only where a line was accepted
abbrev pub marks_after : Place (List ℕ) → Verdict (LineStep (List ℕ)) → List ℕ
marks_after p (accepted over) = p.marks
marks_after p (accepted (onward q)) = q.marks
marks_after p (refused number rec) = p.marks

-- what `mark_line` ensures, which writes the mark `mark`, however many lines were accepted before
pub record SteppedAs (mark n : ℕ) (out put marks sheet : List ℕ) (last index high : ℕ) (r : Result (Option Strike) Refused) (left : List ℕ)
    : Type 0 where
  pub answered : (lines : ℕ) → stepped_of (place_of marks lines last index high) r left
      ≡ line_step (marking_between mark n out put) sheet (place_of marks lines last index high)
  pub size : length left ≡ length marks
  pub marks_left : (lines : ℕ) → left
      ≡ marks_after (place_of marks lines last index high)
      (line_step (marking_between mark n out put) sheet (place_of marks lines last index high))
