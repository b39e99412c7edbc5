-- The operations "mark a sheet" and "ask a sheet": tests 1, 2, 5, 6, 20 and 7, then the lines from record 1 on.
use Rattle.std.specs.Prelude.{ℕ, List, length, Result, Ok, Err}
use Rattle.lists.specs.Test.{unless}
use Rattle.lengths.specs.Refusal.{refusal_number}
use Rattle.lengths.specs.declared.refusal.Refusal.{Refusal}
use Rattle.lengths.specs.declared.refusal.Refusal.TheVariants as refusal
use Rattle.argument.specs.Record.{records}
use Rattle.argument.specs.Verdict.{refused}
use Rattle.argument.specs.Sheet.{sheet}
use Rattle.argument.specs.Sheet as lines
use Rattle.sheets.specs.Rules.{marking_between}
use Rattle.sheets.specs.Sheet.{whole_sheet}
use Rattle.marks.specs.Mark.{struck_mark, pending_mark}
use Rattle.marks.specs.Packed.{packed, marks_of, repacked}
use Rattle.admission.specs.Tests.{ready}
use Rattle.marking.specs.declared.mark.Passed.{Passed}

-- tests 1, 2, 5, 6 and 20 behind what they answer, and 7: how many points and records there are
abbrev pub until_sheet : Result ℕ Refusal → List ℕ → Result Passed Refusal
until_sheet (Err refused_by) s = Err refused_by
until_sheet (Ok n) s = unless (whole_sheet (length s)) (Err refusal.Sheet) (Ok (record { points = n; records = records s }))

unfoldable pub tested_sheet : ℕ → (table marks s : List ℕ) → Result Passed Refusal
tested_sheet n table marks s = until_sheet (ready n table marks) s

-- refused before the first line: nothing is marked, and no record is at fault
abbrev pub turned_down : Refusal → List ℕ → lines.Result (List ℕ)
turned_down refused_by marks = record { marks = marks; lines = 0; verdict = refused (refusal_number refused_by) 0 }

abbrev pub mark_tested : (mark : ℕ) → Result ℕ Refusal → (out put marks : List ℕ) → List ℕ → lines.Result (List ℕ)
mark_tested mark (Err refused_by) out put marks s = turned_down refused_by marks
mark_tested mark (Ok n) out put marks s =
    unless (whole_sheet (length s)) (turned_down refusal.Sheet marks) (sheet (marking_between mark n out put) s marks)

-- a sheet whose accepted lines write the mark `mark`: what it answers, and the marks that it leaves
unfoldable pub mark_by : (mark : ℕ) → ℕ → List ℕ → List ℕ → List ℕ → lines.Result (List ℕ)
mark_by mark n table marks s = mark_tested mark (ready n table marks) table table marks s

-- "mark a sheet": its strikes are struck
abbrev pub mark_sheet : ℕ → List ℕ → List ℕ → List ℕ → lines.Result (List ℕ)
mark_sheet = mark_by struck_mark

-- "ask a sheet" (02, Paper 3): "its strikes get mark 2, pending"
abbrev pub ask_sheet : ℕ → List ℕ → List ℕ → List ℕ → lines.Result (List ℕ)
ask_sheet = mark_by pending_mark

-- a result whose marks are packed
abbrev pub packed_result : lines.Result (List ℕ) → lines.Result (List ℕ)
packed_result r = record { marks = packed r.marks; lines = r.lines; verdict = r.verdict }

-- over a packed set: the marks that it holds are marked, and it holds those that are left
abbrev pub repack : ℕ → List ℕ → lines.Result (List ℕ) → lines.Result (List ℕ)
repack n set r = record { marks = repacked n set r.marks; lines = r.lines; verdict = r.verdict }

unfoldable pub mark_packed_by : (mark : ℕ) → ℕ → List ℕ → List ℕ → List ℕ → lines.Result (List ℕ)
mark_packed_by mark n table set s = repack n set (mark_by mark n table (marks_of n set) s)

abbrev pub mark_packed : ℕ → List ℕ → List ℕ → List ℕ → lines.Result (List ℕ)
mark_packed = mark_packed_by struck_mark

abbrev pub ask_packed : ℕ → List ℕ → List ℕ → List ℕ → lines.Result (List ℕ)
ask_packed = mark_packed_by pending_mark
