-- DEMAND 2 for lines and sheets: what *mark a sheet* and *ask a sheet* accept, answer and change, by 01's rules alone.
-- Both are `mark_by`, whose accepted lines write the mark `mark`, struck or pending; to both, open is mark 1. Assumes
-- nothing.
use Prim.Native.Nat.{ℕ}
use mathlib.Core.Path.{◌≡◌, ◌∙◌, ap}
use mathlib.Core.Logic.{◌↔◌}
use mathlib.Core.List.{List}
use lib.ListN.{length}
use Rattle.lengths.specs.Edge.{Edge, edge_count}
use Rattle.marks.specs.Mark.{open_mark, open_in}
use Rattle.argument.specs.Line.{Struck, strikes, judge, CompleteLine}
use Rattle.argument.specs.Sheet.{Place, Result, start, sheet}
use Rattle.argument.specs.Answers.{CompleteLines, Answers, RefusedAt}
use Rattle.argument.specs.Verdict.{accepted, refused}
use Rattle.sheets.specs.Rules.{rules_of, marking_by}
use Rattle.admission.proofs.Passed.{passed, ready_tested}
use Rattle.marking.specs.Mark.{mark_by}
use Rattle.admission.specs.Tests.{ready}
use Rattle.demands.specs.Marked.{Passes, struck_edges, Changes}
use Rattle.demands.proofs.Changed.{chain_changes}
use Rattle.demands.proofs.SheetLines.{judged_exact, lines_marked, answers, answers_whole, answers_refusal, tested_changes}

-- DEMAND 2: a line, entered as record i, is accepted exactly when it is a complete line: it names two different points,
-- their edge is open, and a complete argument for it is laid out behind the record, at most six splits deep. The walk
-- accepts exactly the complete arguments laid out there (`line_sound`, `line_complete`), since the rules are lawful: on
-- every set that an argument comes to, the walk's list has exactly the feasible pairs, and its number is 0 exactly
-- where the 3-opt closing closes.
pub demand_2 :
    (n : ℕ) (table marks sheet : List ℕ) (i a b next high : ℕ) →
    (judge (rules_of n table marks) (open_in n marks) sheet i ≡ accepted (strikes a b next high)) ↔ CompleteLine (rules_of n table marks) (open_in n marks) sheet i a b next high
demand_2 n table = judged_exact n table table

-- a call that passes the tests, 20 and 7 among them, has its lines marked
marked_lines : (mark n : ℕ) (table marks s : List ℕ) → Passes n table marks s → mark_by mark n table marks s ≡ sheet (marking_by mark n table) s marks
unfolding mark_by
marked_lines mark n table marks s p = lines_marked mark n table table marks s (ready n table marks) p.points p.whole

-- DEMAND 2 for a sheet: a call that passes the tests up to 7 answers r exactly when a chain of complete lines from
-- record 1 on, each complete under the marks that the lines before it leave, leads to a place where it stops (`Stops`:
-- index 0, an index refused by 8 or 9, or a line that is not complete) with r's verdict, marks and number of lines.
-- Each line is judged as `demand_2` says, one after the other (`sheet_exact`).
pub demand_2_sheet :
    (mark n : ℕ) (table marks s : List ℕ) → Passes n table marks s → (r : Result (List ℕ)) →
    (mark_by mark n table marks s ≡ r) ↔ Answers (marking_by mark n table) s (start marks) r
demand_2_sheet mark n table marks s p = answers mark n table table marks s (mark_by mark n table marks s) (marked_lines mark n table marks s p)

-- Every chain of complete lines that ends at index 0 is accepted whole, with its marks and its number of lines: it is
-- an answer as `demand_2_sheet` says, which stops by index 0; and the place behind a chain has counted its lines.
pub demand_2_whole :
    (mark n : ℕ) (table marks s : List ℕ) → Passes n table marks s → (lines : List Struck) (q : Place (List ℕ)) →
    CompleteLines (marking_by mark n table) s (start marks) lines q → q.index ≡ 0 →
    mark_by mark n table marks s ≡ record { marks = q.marks; lines = length lines; verdict = accepted tt }
demand_2_whole mark n table marks s p = answers_whole mark n table table marks s (mark_by mark n table marks s) (marked_lines mark n table marks s p)

-- A refusal after test 7 has a number from 8 to 16 and names one of the sheet's records. The index 1 is entered, since
-- the sheet has a record. From then on the record that has an index is the last line entered, which 8 and 9 name; and a
-- line that is not complete is refused by a test of the walk, which names the record that it entered or the one that
-- has the index, or by the closing, whose numbers are 15 and 16. So the answer that the walk would give if its fuel ran
-- out, number 0, is none of a sheet.
pub demand_2_refusal :
    (mark n : ℕ) (table marks s : List ℕ) → Passes n table marks s → (number rec : ℕ) →
    (mark_by mark n table marks s).verdict ≡ refused number rec → RefusedAt s number rec
demand_2_refusal mark n table marks s p = answers_refusal mark n table table marks s (mark_by mark n table marks s) (marked_lines mark n table marks s p) p.whole

-- The marks that a call changes are those of the edges that its accepted lines strike, as many as the lines that it
-- answers, each open before. A complete line finds its edge open. No line opens an edge, so that mark is still the one
-- that the call found, and it becomes 0: one mark more differs. What is struck stays struck, so the edges of all lines
-- are struck at the end, and every other edge has the mark that it had.
pub demand_2_struck :
    (mark : ℕ) → (mark ≡ open_mark → ⊥) → (n : ℕ) (table marks s : List ℕ) → Passes n table marks s → (r : Result (List ℕ)) (m : Answers (marking_by mark n table) s (start marks) r) →
    Changes mark n marks r.marks (struck_edges m.lines) r.lines
demand_2_struck mark other n table marks s p r m = chain_changes mark other n table table s marks (passed (ready_tested p.points).tests).marked r m

-- And so for every call: one that fails a test of 1 to 7 accepts no line and changes nothing.
pub demand_2_changes : (mark : ℕ) → (mark ≡ open_mark → ⊥) → (n : ℕ) (table marks s : List ℕ) → (struck : List Edge) × Changes mark n marks (mark_by mark n table marks s).marks struck (mark_by mark n table marks s).lines
unfolding mark_by
demand_2_changes mark other n table marks s =
    tested_changes mark n table table marks s other (ready n table marks)
    (λ p e. let q = passed (ready_tested e).tests in (q.same, q.marked ∙ ap edge_count q.same))
