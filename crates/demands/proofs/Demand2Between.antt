-- DEMAND 2 for lines and sheets over two tables (02, Paper 11): what *mark a sheet* accepts, answers and changes, by
-- the rules over low and high alone: "whatever a rule takes out counts low, whatever it puts in counts high". Lists are
-- in `Listed`. Assumes nothing.
use Prim.Native.Nat.{ℕ}
use mathlib.Core.Path.{◌≡◌, ◌∙◌, ap}
use mathlib.Core.Logic.{◌↔◌}
use mathlib.Core.List.{List}
use native.Mathlib.Omega.{arith}
use lib.ListN.{length}
use Rattle.lengths.specs.Edge.{Edge, edge_count}
use Rattle.marks.specs.Mark.{struck_mark, open_mark, open_in}
use Rattle.argument.specs.Line.{Struck, strikes, judge, CompleteLine}
use Rattle.argument.specs.Sheet.{Place, Result, start, sheet}
use Rattle.argument.specs.Answers.{CompleteLines, Answers, RefusedAt}
use Rattle.argument.specs.Verdict.{accepted, refused}
use Rattle.sheets.specs.Rules.{rules_between, marking_between}
use Rattle.admission.proofs.Passed.{passed_ready}
use Rattle.admission.specs.Tests.{ready_between}
use Rattle.marking.specs.MarkBetween.{mark_between}
use Rattle.demands.specs.Marked.{PassesBetween, struck_edges, Changes}
use Rattle.demands.proofs.Changed.{chain_changes}
use Rattle.demands.proofs.SheetLines.{judged_exact, lines_marked, answers, answers_whole, answers_refusal, tested_changes}

-- DEMAND 2 over two tables: a line, entered as record i, is accepted exactly when it is a complete line by the rules
-- over low and high: it names two different points, their edge is open, and a complete argument for it is laid out
-- behind the record, at most six splits deep, whose cases are the pairs that are feasible over low and high and whose
-- closings close over low and high. The walk accepts exactly the complete arguments laid out there (`judged_exact`),
-- since these rules are lawful like those over one table.
pub demand_2_between :
    (n : ℕ) (low high marks sheet : List ℕ) (i a b next highest : ℕ) →
    (judge (rules_between n low high marks) (open_in n marks) sheet i ≡ accepted (strikes a b next highest)) ↔ CompleteLine (rules_between n low high marks) (open_in n marks) sheet i a b next highest
demand_2_between = judged_exact

struck_not_open : struck_mark ≡ open_mark → ⊥
struck_not_open e = omega arith

module _ (n : ℕ) (low high marks s : List ℕ) where
  -- a call that passes the tests, 25, 20 and 7 among them, has its lines marked
  marked_lines : PassesBetween n low high marks s → mark_between n low high marks s ≡ sheet (marking_between struck_mark n low high) s marks
  unfolding mark_between
  marked_lines p = lines_marked struck_mark n low high marks s (ready_between n low high marks) p.points p.whole

  -- DEMAND 2 for a sheet over two tables: a call that passes the tests up to 7 answers r exactly when a chain of
  -- complete lines from record 1 on, each complete by the rules over low and high under the marks that the lines before
  -- it leave, leads to a place where it stops with r's verdict, marks and number of lines. Each line is judged as
  -- `demand_2_between` says, one after the other.
  pub demand_2_sheet_between : PassesBetween n low high marks s → (r : Result (List ℕ)) → (mark_between n low high marks s ≡ r) ↔ Answers (marking_between struck_mark n low high) s (start marks) r
  demand_2_sheet_between p = answers struck_mark n low high marks s (mark_between n low high marks s) (marked_lines p)

  -- Every chain of complete lines that ends at index 0 is accepted whole, with its marks and its number of lines.
  pub demand_2_whole_between : PassesBetween n low high marks s → (lines : List Struck) (q : Place (List ℕ)) →
      CompleteLines (marking_between struck_mark n low high) s (start marks) lines q → q.index ≡ 0 →
      mark_between n low high marks s ≡ record { marks = q.marks; lines = length lines; verdict = accepted tt }
  demand_2_whole_between p = answers_whole struck_mark n low high marks s (mark_between n low high marks s) (marked_lines p)

  -- A refusal after test 7 has a number from 8 to 16 and names one of the sheet's records.
  pub demand_2_refusal_between : PassesBetween n low high marks s → (number rec : ℕ) → (mark_between n low high marks s).verdict ≡ refused number rec → RefusedAt s number rec
  demand_2_refusal_between p = answers_refusal struck_mark n low high marks s (mark_between n low high marks s) (marked_lines p) p.whole

  -- The marks that a call changes are those of the edges that its accepted lines strike, as many as the lines that it
  -- answers, each open before and struck now.
  pub demand_2_struck_between : PassesBetween n low high marks s → (r : Result (List ℕ)) (m : Answers (marking_between struck_mark n low high) s (start marks) r) →
      Changes struck_mark n marks r.marks (struck_edges m.lines) r.lines
  demand_2_struck_between p r m = chain_changes struck_mark struck_not_open n low high s marks (passed_ready p.points).listable.marked r m

  -- And so for every call: one that fails a test of 1 to 7 accepts no line and changes nothing.
  pub demand_2_changes_between : (struck : List Edge) × Changes struck_mark n marks (mark_between n low high marks s).marks struck (mark_between n low high marks s).lines
  unfolding mark_between
  demand_2_changes_between = tested_changes struck_mark n low high marks s struck_not_open (ready_between n low high marks) (λ p e. let q = passed_ready e in (q.same, q.listable.marked ∙ ap edge_count q.same))
