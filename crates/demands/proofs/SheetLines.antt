-- What a sheet accepts, answers and changes by the rules over the lengths of what is taken out and of what is put in:
-- the theorems of demand 2 behind any tests. `Demand2` says them of one table, `Demand2Between` of two. Assumes
-- nothing.
use Prim.Native.Nat.{ℕ}
use mathlib.Core.Path.{◌≡◌, refl, sym, ◌∙◌, ap, subst}
use mathlib.Core.Bool.{Bool, true, false}
use mathlib.Core.Logic.{◌↔◌}
use mathlib.Core.List.{List, [], ◌∷◌}
use native.Mathlib.Omega.{arith}
use lib.ListN.{length}
use Rattle.std.specs.Prelude.{Result as Outcome, Ok, Err}
use Rattle.lengths.specs.declared.refusal.Refusal.{Refusal}
use Rattle.lengths.specs.declared.refusal.Refusal.TheVariants as refusal
use Rattle.lengths.specs.Edge.{Edge, edge_count}
use Rattle.lists.specs.Test.{unless}
use Rattle.marks.specs.Mark.{open_mark, open_in}
use Rattle.argument.specs.Line.{Struck, strikes, judge, CompleteLine}
use Rattle.argument.specs.Sheet.{Place, Result, start, sheet}
use Rattle.argument.specs.Answers.{CompleteLines, ended, Answers, RefusedAt}
use Rattle.argument.specs.Verdict.{accepted, refused}
use Rattle.argument.proofs.Exact.{line_sound, line_complete}
use Rattle.argument.proofs.Numbers.{refusal_told}
use Rattle.argument.proofs.SheetExact.{chain_length, sheet_exact}
use Rattle.sheets.proofs.Records.{sheet_records}
use Rattle.sheets.specs.Rules.{rules_between, marking_between}
use Rattle.sheets.specs.Sheet.{whole_sheet}
use Rattle.marking.specs.Mark.{mark_tested, turned_down}
use Rattle.demands.specs.Marked.{struck_edges, Changes}
use Rattle.demands.proofs.Changed.{chain_changes, no_changes}
use Rattle.demands.proofs.Lawful.{lawful_between}

-- A line is accepted exactly when it is complete. The walk accepts exactly the complete arguments laid out there
-- (`line_sound`, `line_complete`), since the rules are lawful: on every set that an argument comes to, the walk's list
-- has exactly the feasible pairs, and its number is 0 exactly where the 3-opt closing closes.
pub judged_exact :
    (n : ℕ) (out put marks sheet : List ℕ) (i a b next high : ℕ) →
    (judge (rules_between n out put marks) (open_in n marks) sheet i ≡ accepted (strikes a b next high)) ↔ CompleteLine (rules_between n out put marks) (open_in n marks) sheet i a b next high
judged_exact n out put marks sheet i a b next high = (
  line_sound (rules_between n out put marks) (lawful_between n out put marks) sheet (open_in n marks) i a b next high,
  line_complete (rules_between n out put marks) (lawful_between n out put marks) sheet (open_in n marks) i a b next high,
)

module _ (mark n : ℕ) (out put marks s : List ℕ) where
  -- a call that passes the tests, and 7, has its lines marked
  pub lines_marked : (t : Outcome ℕ Refusal) → t ≡ Ok n → whole_sheet (length s) ≡ true → mark_tested mark t out put marks s ≡ sheet (marking_between mark n out put) s marks
  lines_marked t e w = ap (λ (r : Outcome ℕ Refusal). mark_tested mark r out put marks s) e ∙ rw w

  -- what is said of a call whose answer is that of its lines
  module _ (answer : Result (List ℕ)) (lines_of : answer ≡ sheet (marking_between mark n out put) s marks) where
    -- its lines are judged one after the other (`sheet_exact`)
    pub answers : (r : Result (List ℕ)) → (answer ≡ r) ↔ Answers (marking_between mark n out put) s (start marks) r
    answers r =
        let e = sheet_exact (marking_between mark n out put) (lawful_between n out put) s marks r in
        (λ h. e.0 (sym lines_of ∙ h), λ m. lines_of ∙ e.1 m)

    -- a chain of complete lines that ends at index 0 is such an answer, and the place behind a chain has counted its
    -- lines
    pub answers_whole : (lines : List Struck) (q : Place (List ℕ)) → CompleteLines (marking_between mark n out put) s (start marks) lines q → q.index ≡ 0 →
        answer ≡ record { marks = q.marks; lines = length lines; verdict = accepted tt }
    unfolding start
    answers_whole lines q chain z =
        (answers (record { marks = q.marks; lines = length lines; verdict = accepted tt })).1
        (record {
          lines = lines;
          place = q;
          chain = chain;
          stops = ended z;
          marks_left = refl;
          counted = let c = chain_length (marking_between mark n out put) s lines (start marks) q chain in omega (arith, c);
        })

    -- the sheet has a record, so index 1 is entered, and from then on a refusal names a record that was entered
    pub answers_refusal : whole_sheet (length s) ≡ true → (number rec : ℕ) → answer.verdict ≡ refused number rec → RefusedAt s number rec
    answers_refusal w number rec e =
        refusal_told (marking_between mark n out put) (lawful_between n out put) s marks answer (sheet_records s w).some ((answers answer).0 refl) number rec e

  -- every call: one that fails a test accepts no line and changes nothing
  pub tested_changes : (mark ≡ open_mark → ⊥) → (t : Outcome ℕ Refusal) → ((p : ℕ) → t ≡ Ok p → (p ≡ n) × (length marks ≡ edge_count n)) →
      (struck : List Edge) × Changes mark n marks (mark_tested mark t out put marks s).marks struck (mark_tested mark t out put marks s).lines
  tested_changes other t told = tests t told
    where
      ChangesIn : Result (List ℕ) → Type 0
      ChangesIn r = (struck : List Edge) × Changes mark n marks r.marks struck r.lines

      whole : length marks ≡ edge_count n → (b : Bool) → ChangesIn (unless b (turned_down refusal.Sheet marks) (sheet (marking_between mark n out put) s marks))
      whole size true =
          let m = (sheet_exact (marking_between mark n out put) (lawful_between n out put) s marks (sheet (marking_between mark n out put) s marks)).0 refl in
          (struck_edges m.lines, chain_changes mark other n out put s marks size (sheet (marking_between mark n out put) s marks) m)
      whole size false = ([], no_changes mark n marks)

      tests : (r : Outcome ℕ Refusal) → ((p : ℕ) → r ≡ Ok p → (p ≡ n) × (length marks ≡ edge_count n)) → ChangesIn (mark_tested mark r out put marks s)
      tests (Err number) e = ([], no_changes mark n marks)
      tests (Ok m) e = let z = e m refl in subst (λ (k : ℕ). ChangesIn (mark_tested mark (Ok k) out put marks s)) (sym z.0) (whole z.1 (whole_sheet (length s)))

-- a call that accepts no line leaves the marks as they were, whatever its tests come to: a chain without a line has not
-- left its beginning
module _ (mark : ℕ) (out put marks s : List ℕ) where
  no_lines_lem : (n : ℕ) (xs : List Struck) (q : Place (List ℕ)) → CompleteLines (marking_between mark n out put) s (start marks) xs q → q.lines ≡ 0 → q.marks ≡ marks
  unfolding start CompleteLines
  no_lines_lem n [] q chain e = sym (ap (λ (p : Place (List ℕ)). p.marks) chain)
  no_lines_lem n (x ∷ xs) q chain e = let c = chain_length (marking_between mark n out put) s (x ∷ xs) (start marks) q chain in absurd (omega (arith, c, e))

  pub tested_unmarked : (t : Outcome ℕ Refusal) → (mark_tested mark t out put marks s).lines ≡ 0 → (mark_tested mark t out put marks s).marks ≡ marks
  tested_unmarked (Err number) e = refl
  tested_unmarked (Ok n) e = whole (whole_sheet (length s)) e
    where
      whole : (b : Bool) → (unless b (turned_down refusal.Sheet marks) (sheet (marking_between mark n out put) s marks)).lines ≡ 0 →
          (unless b (turned_down refusal.Sheet marks) (sheet (marking_between mark n out put) s marks)).marks ≡ marks
      whole false z = refl
      whole true z =
          let m = (sheet_exact (marking_between mark n out put) (lawful_between n out put) s marks (sheet (marking_between mark n out put) s marks)).0 refl in
          m.marks_left ∙ no_lines_lem n m.lines m.place m.chain (sym m.counted ∙ z)
