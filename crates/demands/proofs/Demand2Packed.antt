-- DEMAND 2 for sheets over packed sets (02, Paper 4): what `mark_sheet`, `ask_sheet` and `mark_between` answer, leave
-- and change, by 01's rules alone. A set whose call passes the tests is well packed, so what is left is the packed set
-- of the marks that the lines leave; the theorems are those of `Demand2` and `Demand2Between`. Assumes nothing.
use Prim.Native.Nat.{ℕ, ◌≤◌}
use mathlib.Core.Path.{◌≡◌, refl, sym, ◌∙◌, ap, subst}
use mathlib.Core.Bool.{Bool, true, cond}
use mathlib.Core.Logic.{◌↔◌}
use mathlib.Core.List.{List}
use native.Mathlib.Omega.{arith}
use lib.ListN.{length}
use Rattle.std.specs.Prelude.{Result as Outcome, Ok, Err}
use Rattle.lengths.specs.declared.refusal.Refusal.{Refusal}
use Rattle.lengths.specs.Edge.{Edge}
use Rattle.marks.specs.Mark.{struck_mark, open_mark, pending_mark}
use Rattle.marks.specs.Packed.{ByteSet, packed, well_packed, marks_of, repacked}
use Rattle.marks.proofs.PackedSets.{marks_size, marks_are, marks_packed, repacked_same}
use Rattle.argument.specs.Line.{Struck}
use Rattle.argument.specs.Sheet.{Place, Result, start}
use Rattle.argument.specs.Answers.{CompleteLines, Answers, RefusedAt}
use Rattle.argument.specs.Verdict.{accepted, refused}
use Rattle.sheets.specs.Rules.{marking_by, marking_between}
use Rattle.admission.proofs.Passed.{passed_ready, both_passed, passed, passed_well, ready_tested}
use Rattle.marking.specs.MarkBetween.{mark_between, mark_between_packed}
use Rattle.admission.specs.Tests.{ready_between, ready}
use Rattle.marking.proofs.PackedSheets.{mark_byte_set, tested_byte_set}
use Rattle.marking.specs.Mark.{mark_tested, mark_by, packed_result, repack, mark_packed_by}
use Rattle.demands.specs.Marked.{Passes, PassesBetween, struck_edges, Changes, AnswersPacked}
use Rattle.demands.proofs.Demand2.{demand_2_sheet, demand_2_whole, demand_2_refusal, demand_2_struck, demand_2_changes}
use Rattle.demands.proofs.Demand2Between.{demand_2_sheet_between, demand_2_whole_between, demand_2_refusal_between, demand_2_struck_between, demand_2_changes_between}

-- marks that a well packed set holds
held_set : {n : ℕ} (set : List ℕ) → well_packed n set ≡ true → ByteSet n (marks_of n set)
held_set {n} set well = record { size = marks_size n set well; are = marks_are n set }

repack_well : (n : ℕ) (set : List ℕ) → well_packed n set ≡ true → (r : Result (List ℕ)) → repack n set r ≡ packed_result r
unfolding repacked
repack_well n set well r = ap (λ (t : Bool). record { marks = cond t (packed r.marks) set; lines = r.lines; verdict = r.verdict }) well

-- what is said of a call over a well packed set, whose answer on the marks that it holds is as demand 2 has it
module _ (mark n : ℕ) (out put set s : List ℕ) (well : well_packed n set ≡ true) (answer : Result (List ℕ))
    (exact : (r : Result (List ℕ)) → (answer ≡ r) ↔ Answers (marking_between mark n out put) s (start (marks_of n set)) r) where
  answers_packed : (q : Result (List ℕ)) → (repack n set answer ≡ q) ↔ AnswersPacked (marking_between mark n out put) s (marks_of n set) q
  answers_packed q = (
    λ e. record { result = answer; answers = (exact answer).0 refl; packs = sym e ∙ repack_well n set well answer },
    λ m. ap (repack n set) ((exact m.result).1 m.answers) ∙ repack_well n set well m.result ∙ sym m.packs,
  )

  -- the set that is left holds the marks that the lines leave, so what they change is what the set's marks change
  changes_packed : ByteSet n answer.marks → (q : Result (List ℕ)) (m : AnswersPacked (marking_between mark n out put) s (marks_of n set) q) (struck : List Edge) →
      Changes mark n (marks_of n set) m.result.marks struck m.result.lines → Changes mark n (marks_of n set) (marks_of n q.marks) struck q.lines
  changes_packed kept q m struck changes =
      subst (λ (a : Result (List ℕ)). Changes mark n (marks_of n set) (marks_of n a.marks) struck a.lines) (sym m.packs)
      (subst (λ (left : List ℕ). Changes mark n (marks_of n set) left struck m.result.lines) (sym held) changes)
    where
      held : marks_of n (packed m.result.marks) ≡ m.result.marks
      held = marks_packed (subst (λ (a : Result (List ℕ)). ByteSet n a.marks) ((exact m.result).1 m.answers) kept)

-- what a call leaves, whatever its tests come to, holds the marks that are left: a set that is not well packed is
-- refused and stays
module _ (mark n : ℕ) (out put set s : List ℕ) where
  held_left : mark ≤ pending_mark → (t : Outcome ℕ Refusal) → ((p : ℕ) → t ≡ Ok p → well_packed n set ≡ true) →
      marks_of n (repack n set (mark_tested mark t out put (marks_of n set) s)).marks ≡ (mark_tested mark t out put (marks_of n set) s).marks
  held_left l (Err number) told = ap (marks_of n) (repacked_same n set)
  held_left l (Ok p) told =
      let r = mark_tested mark (Ok p) out put (marks_of n set) s in
      ap (λ (q : Result (List ℕ)). marks_of n q.marks) (repack_well n set (told p refl) r) ∙ marks_packed (tested_byte_set mark out put s l (held_set set (told p refl)) (Ok p))

-- over one table, marked (`mark` struck) or asked (`mark` pending)
module _ (mark n : ℕ) (table set s : List ℕ) where
  well_passed : {p : ℕ} → ready n table (marks_of n set) ≡ Ok p → well_packed n set ≡ true
  well_passed e = passed_well set (both_passed (passed (ready_tested e).tests))

  module _ (p : Passes n table (marks_of n set) s) where
    -- DEMAND 2 for a sheet over a packed set: a call that passes the tests up to 7 answers and leaves q exactly when a
    -- chain of complete lines from record 1 on leads to a place where the sheet stops, with the verdict and the number
    -- of lines of that place, and q has the packed set of its marks
    pub demand_2_sheet_packed : (q : Result (List ℕ)) → (mark_packed_by mark n table set s ≡ q) ↔ AnswersPacked (marking_by mark n table) s (marks_of n set) q
    unfolding mark_packed_by
    demand_2_sheet_packed = answers_packed mark n table table set s (well_passed p.points) (mark_by mark n table (marks_of n set) s) (demand_2_sheet mark n table (marks_of n set) s p)

    pub demand_2_whole_packed : (lines : List Struck) (q : Place (List ℕ)) → CompleteLines (marking_by mark n table) s (start (marks_of n set)) lines q → q.index ≡ 0 →
        mark_packed_by mark n table set s ≡ record { marks = packed q.marks; lines = length lines; verdict = accepted tt }
    unfolding mark_packed_by
    demand_2_whole_packed lines q chain z =
        ap (repack n set) (demand_2_whole mark n table (marks_of n set) s p lines q chain z)
        ∙ repack_well n set (well_passed p.points) (record { marks = q.marks; lines = length lines; verdict = accepted tt })

    pub demand_2_refusal_packed : (number rec : ℕ) → (mark_packed_by mark n table set s).verdict ≡ refused number rec → RefusedAt s number rec
    unfolding mark_packed_by
    demand_2_refusal_packed = demand_2_refusal mark n table (marks_of n set) s p

    pub demand_2_struck_packed : (mark ≡ open_mark → ⊥) → mark ≤ pending_mark → (q : Result (List ℕ)) (m : AnswersPacked (marking_by mark n table) s (marks_of n set) q) →
        Changes mark n (marks_of n set) (marks_of n q.marks) (struck_edges m.answers.lines) q.lines
    demand_2_struck_packed other l q m =
        changes_packed mark n table table set s (well_passed p.points) (mark_by mark n table (marks_of n set) s) (demand_2_sheet mark n table (marks_of n set) s p)
        (mark_byte_set mark n table s l (held_set set (well_passed p.points))) q m (struck_edges m.answers.lines)
        (demand_2_struck mark other n table (marks_of n set) s p m.result m.answers)

  -- for every call, refused ones too: the marks that the set holds change at as many edges as lines are accepted, each
  -- from open to `mark`, and at no other
  pub demand_2_changes_packed : (mark ≡ open_mark → ⊥) → mark ≤ pending_mark →
      (struck : List Edge) × Changes mark n (marks_of n set) (marks_of n (mark_packed_by mark n table set s).marks) struck (mark_packed_by mark n table set s).lines
  unfolding mark_packed_by mark_by
  demand_2_changes_packed other l =
      let c = demand_2_changes mark other n table (marks_of n set) s in (
        c.0,
        subst (λ (left : List ℕ). Changes mark n (marks_of n set) left c.0 (mark_by mark n table (marks_of n set) s).lines)
            (sym (held_left mark n table table set s l (ready n table (marks_of n set)) (λ q e. well_passed e))) c.1,
      )

-- over two tables, low and high (02, Paper 11)
module _ (n : ℕ) (low high set s : List ℕ) where
  well_between : {p : ℕ} → ready_between n low high (marks_of n set) ≡ Ok p → well_packed n set ≡ true
  well_between e = passed_well set (passed_ready e)

  module _ (p : PassesBetween n low high (marks_of n set) s) where
    pub demand_2_sheet_between_packed : (q : Result (List ℕ)) → (mark_between_packed n low high set s ≡ q) ↔ AnswersPacked (marking_between struck_mark n low high) s (marks_of n set) q
    unfolding mark_between_packed
    demand_2_sheet_between_packed =
        answers_packed struck_mark n low high set s (well_between p.points) (mark_between n low high (marks_of n set) s) (demand_2_sheet_between n low high (marks_of n set) s p)

    pub demand_2_whole_between_packed : (lines : List Struck) (q : Place (List ℕ)) → CompleteLines (marking_between struck_mark n low high) s (start (marks_of n set)) lines q → q.index ≡ 0 →
        mark_between_packed n low high set s ≡ record { marks = packed q.marks; lines = length lines; verdict = accepted tt }
    unfolding mark_between_packed
    demand_2_whole_between_packed lines q chain z =
        ap (repack n set) (demand_2_whole_between n low high (marks_of n set) s p lines q chain z)
        ∙ repack_well n set (well_between p.points) (record { marks = q.marks; lines = length lines; verdict = accepted tt })

    pub demand_2_refusal_between_packed : (number rec : ℕ) → (mark_between_packed n low high set s).verdict ≡ refused number rec → RefusedAt s number rec
    unfolding mark_between_packed
    demand_2_refusal_between_packed = demand_2_refusal_between n low high (marks_of n set) s p

    pub demand_2_struck_between_packed : (q : Result (List ℕ)) (m : AnswersPacked (marking_between struck_mark n low high) s (marks_of n set) q) →
        Changes struck_mark n (marks_of n set) (marks_of n q.marks) (struck_edges m.answers.lines) q.lines
    unfolding mark_between
    demand_2_struck_between_packed q m =
        changes_packed struck_mark n low high set s (well_between p.points) (mark_between n low high (marks_of n set) s) (demand_2_sheet_between n low high (marks_of n set) s p)
        (tested_byte_set struck_mark low high s (omega arith) (held_set set (well_between p.points)) (ready_between n low high (marks_of n set))) q m (struck_edges m.answers.lines)
        (demand_2_struck_between n low high (marks_of n set) s p m.result m.answers)

  pub demand_2_changes_between_packed :
      (struck : List Edge) × Changes struck_mark n (marks_of n set) (marks_of n (mark_between_packed n low high set s).marks) struck (mark_between_packed n low high set s).lines
  unfolding mark_between_packed mark_between
  demand_2_changes_between_packed =
      let c = demand_2_changes_between n low high (marks_of n set) s in (
        c.0,
        subst (λ (left : List ℕ). Changes struck_mark n (marks_of n set) left c.0 (mark_between n low high (marks_of n set) s).lines)
            (sym (held_left struck_mark n low high set s (omega arith) (ready_between n low high (marks_of n set)) (λ q e. well_between e))) c.1,
      )
