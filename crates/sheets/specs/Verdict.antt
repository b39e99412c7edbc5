-- What marking answers, in 01's words: the declared verdict as a result of the definitions.
use Rattle.std.specs.Prelude.{ℕ, List, Result, Ok, Err}
use Rattle.lengths.specs.Refusal.{refusal_number, at_call}
use Rattle.lengths.specs.declared.refusal.Refusal.{Refusal}
use Rattle.argument.specs.Verdict.{accepted, refused}
use Rattle.argument.specs.Sheet as lines
use Rattle.sheets.specs.declared.verdict.Stopped.{Stopped}

-- what marking answers: the number of lines, or where the sheet stops
abbrev pub Verdict : Type 0
Verdict = Result ℕ Stopped

-- a sheet stopped by a test of the call: no record is at fault, and no line was accepted
abbrev pub stopped_at_call : Refusal → Stopped
stopped_at_call refusal = record { refused = at_call refusal; lines = 0 }

-- the verdict with the marks that are left: the lines accepted, and the number and the record of a refusal
abbrev pub result_of : Verdict → List ℕ → lines.Result (List ℕ)
result_of (Ok accepted_lines) marks = record { marks = marks; lines = accepted_lines; verdict = accepted tt }
result_of (Err s) marks =
    record { marks = marks; lines = s.lines; verdict = refused (refusal_number s.refused.refusal) s.refused.at }
