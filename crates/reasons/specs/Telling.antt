-- The operation "tell a line" (02, Paper 6): "a call of its own over a sheet, one line's record number (not in the
-- sheet: 8, record 0) and the marks from before it, pending read as struck; the line counts as the first entered and
-- its next index is not read". Tests 1, 2, 5, 6, 7, 8; the line's own; "22, the buffer is too short for the whole text;
-- it is tested last and nothing is written".
use Rattle.std.specs.Prelude.{ℕ, ◌≡◌, cond, ◌&&◌, ◌||◌, List, [], ◌∷◌, ◌++◌, Option, Some, None, Result, Ok, Err, eqb, leb, length, drop}
use Rattle.lists.specs.Test.{unless}
use Rattle.lengths.specs.Edge.{Edge, edge, edges}
use Rattle.lengths.specs.Table.{length_of}
use Rattle.marks.specs.Mark.{open_in}
use Rattle.argument.specs.Verdict.{Verdict, accepted, refused}
use Rattle.argument.specs.Record.{Record, line, case, visit, other, records, record_at, field}
use Rattle.argument.specs.Line.{Struck, judge}
use Rattle.sheets.specs.Rules.{rules_of}
use Rattle.sheets.specs.Sheet.{whole_sheet}
use Rattle.admission.specs.Tests.{tested}
use Rattle.lengths.specs.Refusal.{refusal_number}
use Rattle.lengths.specs.declared.refusal.Refusal.{Refusal}
use Rattle.lengths.specs.declared.refusal.Refused.{Refused}
use Rattle.sentences.specs.Reason.{Reason, ReasonedPair, split}
use Rattle.sentences.specs.Sentence.{text_of}
use Rattle.reasons.specs.PairReason.{pair_outcome}

-- of the case that the record i is: its split point, and the index of the next case
abbrev pub split_of : List ℕ → ℕ → ℕ
split_of s i = field s i 5

abbrev pub next_of : List ℕ → ℕ → ℕ
next_of s i = field s i 7

-- what is told of a pair, where record i is the case of the next standing pair; and the record that is so behind it
unfoldable pub reason_at : Option Reason → (s : List ℕ) (i : ℕ) → Reason
reason_at (Some r) s i = r
reason_at None s i = split (split_of s i)

unfoldable pub case_behind : Option Reason → (s : List ℕ) (i : ℕ) → ℕ
case_behind (Some r) s i = i
case_behind None s i = next_of s i

-- the reasons of the pairs among these edges, in their order: an edge of the split point c is none
unfoldable pub reasons_from : (outcome : ℕ → ℕ → Option Reason) (s : List ℕ) (c i : ℕ) → List Edge → List ReasonedPair
reasons_from outcome s c i [] = []
reasons_from outcome s c i (edge x y ∷ es) =
    cond (eqb x c || eqb y c) (reasons_from outcome s c i es)
    (record { x = x; y = y; reason = reason_at (outcome x y) s i } ∷ reasons_from outcome s c (case_behind (outcome x y) s i) es)

-- the reasons of all pairs at the first split of a line
unfoldable pub line_reasons : ℕ → (table marks s : List ℕ) → Record → List ReasonedPair
line_reasons n table marks s (line a b c first next) =
    reasons_from (pair_outcome (length_of n table) (open_in n marks) a b c) s c first (edges n)
line_reasons n table marks s (case a b how next) = []
line_reasons n table marks s (visit v next) = []
line_reasons n table marks s other = []

unfoldable pub split_point : Record → ℕ
split_point (line a b c first next) = c
split_point (case a b how next) = 0
split_point (visit v next) = 0
split_point other = 0

-- the text of the line that record i is
unfoldable pub line_text : ℕ → (table marks s : List ℕ) → ℕ → List ℕ
line_text n table marks s i = text_of (split_point (record_at s i)) (line_reasons n table marks s (record_at s i))

-- what telling a line comes to: how many bytes the text has, or the number of the refusal and its record
abbrev pub Telling : Type 0
Telling = Verdict ℕ

-- the declared answer, in 01's numbers
abbrev pub telling_of : Result ℕ Refused → Telling
telling_of (Ok size) = accepted size
telling_of (Err r) = refused (refusal_number r.refusal) r.at

-- the answer of a line that was judged, over a buffer of so many bytes
abbrev pub tell_judged : Verdict Struck → (text : List ℕ) (size : ℕ) → Telling
tell_judged (refused number rec) text size = refused number rec
tell_judged (accepted struck) text size = unless (leb (length text) size) (refused 22 0) (accepted (length text))

abbrev pub tell_tested : Result ℕ Refusal → (table marks s : List ℕ) → (i size : ℕ) → Telling
tell_tested (Err refusal) table marks s i size = refused (refusal_number refusal) 0
tell_tested (Ok n) table marks s i size =
    unless (whole_sheet (length s)) (refused 7 0)
    (unless (leb 1 i && leb i (records s)) (refused 8 0)
    (tell_judged (judge (rules_of n table marks) (open_in n marks) s i) (line_text n table marks s i) size))

unfoldable pub tell_answer : ℕ → (table marks s : List ℕ) → (i size : ℕ) → Telling
tell_answer n table marks s i size = tell_tested (tested n table marks) table marks s i size

-- the buffer that is left: the text, and the bytes past it as they were
abbrev pub tell_left : Telling → (text buffer : List ℕ) → List ℕ
tell_left (accepted size) text buffer = text ++ drop (length text) buffer
tell_left (refused number rec) text buffer = buffer

-- what `tell_line` ensures of the lengths that the table's bytes are, of the marks that the packed set holds and of the
-- sheet's numbers
pub record ToldAs (n : ℕ) (table marks s : List ℕ) (i : ℕ) (buffer : List ℕ) (answer : Result ℕ Refused) (left : List ℕ) : Type 0 where
  pub answered : telling_of answer ≡ tell_answer n table marks s i (length buffer)
  pub text_left : left ≡ tell_left (tell_answer n table marks s i (length buffer)) (line_text n table marks s i) buffer
