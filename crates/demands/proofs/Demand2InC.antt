-- DEMAND 2 for sheets, of the functions for C: what `revosti_mark_sheet`, `revosti_ask_sheet` and
-- `revosti_mark_between` answer, leave and change, by 01's rules alone, from their contracts (`MarkedInC`,
-- `MarkedBetweenInC`). Refusal, record and lines are read from the answer's bits (`receipt_in`). Assumes nothing.
use Prim.Native.Nat.{ℕ, ◌*◌, ◌≤◌}
use mathlib.Core.Path.{◌≡◌, refl, sym, ◌∙◌, ap, subst}
use mathlib.Core.Logic.{◌↔◌}
use mathlib.Core.List.{List}
use native.Mathlib.Omega.{arith}
use lib.ListN.{length}
use Rattle.endian.specs.Bytes.{whole16, whole32}
use Rattle.lengths.specs.Edge.{Edge}
use Rattle.marks.specs.Mark.{struck_mark, open_mark, pending_mark}
use Rattle.marks.specs.Packed.{packed, marks_of}
use Rattle.argument.specs.Line.{Struck}
use Rattle.argument.specs.Sheet.{Marking, Place, Result, start}
use Rattle.argument.specs.Answers.{CompleteLines, RefusedAt}
use Rattle.argument.specs.Verdict.{Verdict, accepted, refused}
use Rattle.sheets.specs.Rules.{marking_by, marking_between}
use Rattle.marking.specs.Mark.{packed_result}
use Rattle.receipts.specs.Receipt.{new_receipt, receipt_of}
use Rattle.receipts.specs.declared.receipt.Receipt.{Receipt}
use Rattle.revosti.specs.Between.{mark_between_in_c, MarkedBetweenInC}
use Rattle.revosti.specs.Mark.{result_number, mark_in_c, MarkedInC}
use Rattle.revosti.specs.Receipt.{receipt_in}
use Rattle.demands.specs.Marked.{Passes, PassesBetween, struck_edges, Changes, AnswersPacked, AnswersInC}
use Rattle.demands.specs.SheetAnswer.{SheetAnswer, of_marking, of_between}
use Rattle.demands.proofs.Demand2Packed.{demand_2_sheet_packed, demand_2_whole_packed, demand_2_refusal_packed, demand_2_struck_packed, demand_2_changes_packed, demand_2_sheet_between_packed, demand_2_whole_between_packed, demand_2_refusal_between_packed, demand_2_struck_between_packed, demand_2_changes_between_packed}
use Rattle.demands.proofs.Receipts.{marked_receipt}

-- what is said of any call whose number is that of q and whose set is q's
module _ (q : Result (List ℕ)) (called : SheetAnswer q) {r : ℕ} {left : List ℕ} (answered : r ≡ result_number q) (set-left : left ≡ q.marks) where
  -- the bits of the answer are those of its slip
  bits : receipt_in r ≡ receipt_of q
  bits = ap receipt_in answered ∙ marked_receipt called

  lines_told : (receipt_in r).lines ≡ q.lines
  lines_told = ap (λ (t : Receipt). t.lines) bits ∙ by q.verdict
    where
      by : (v : Verdict (Unit {0})) → (new_receipt v q.lines).lines ≡ q.lines
      by (accepted u) = refl
      by (refused number rec) = refl

  refusal_in_c : (s : List ℕ) → ((number rec : ℕ) → q.verdict ≡ refused number rec → RefusedAt s number rec) → ((receipt_in r).refusal ≡ 0 → ⊥) → RefusedAt s (receipt_in r).refusal (receipt_in r).rec
  refusal_in_c s told some = subst (λ (t : Receipt). RefusedAt s t.refusal t.rec) (sym bits) (by q.verdict refl)
    where
      by : (v : Verdict (Unit {0})) → q.verdict ≡ v → RefusedAt s (new_receipt v q.lines).refusal (new_receipt v q.lines).rec
      by (accepted u) e = absurd (some (ap (λ (t : Receipt). t.refusal) bits ∙ ap (λ (v : Verdict (Unit {0})). (new_receipt v q.lines).refusal) e))
      by (refused number rec) e = told number rec e

  changes_in_c : (mark n : ℕ) (marks : List ℕ) (struck : List Edge) → Changes mark n marks (marks_of n q.marks) struck q.lines → Changes mark n marks (marks_of n left) struck (receipt_in r).lines
  changes_in_c mark n marks struck c =
      subst (λ (k : ℕ). Changes mark n marks (marks_of n left) struck k) (sym lines_told)
      (subst (λ (l : List ℕ). Changes mark n marks (marks_of n l) struck q.lines) (sym set-left) c)

-- the number of a result is that of the result whose marks are packed
packed_number : (a : Result (List ℕ)) → result_number (packed_result a) ≡ result_number a
packed_number a = refl

answers_in_c : (𝓜 : Marking (List ℕ)) (s marks : List ℕ) (q : Result (List ℕ)) (r : ℕ) (left : List ℕ) → AnswersPacked 𝓜 s marks q → r ≡ result_number q → left ≡ q.marks → AnswersInC 𝓜 s marks r left
answers_in_c 𝓜 s marks q r left m e f =
    record {
      result = m.result;
      answers = m.answers;
      numbered = e ∙ ap result_number m.packs ∙ packed_number m.result;
      set-left = f ∙ ap (λ (a : Result (List ℕ)). a.marks) m.packs;
    }

abbrev packed_answers : {𝓜 : Marking (List ℕ)} {s marks : List ℕ} {r : ℕ} {left : List ℕ} (m : AnswersInC 𝓜 s marks r left) → AnswersPacked 𝓜 s marks (packed_result m.result)
packed_answers m = record { result = m.result; answers = m.answers; packs = refl }

-- a sheet accepted whole has the number of its lines and nothing else
whole_number : (left : List ℕ) (lines : ℕ) → result_number (record { marks = left; lines = lines; verdict = accepted tt }) ≡ 16777216 * lines
whole_number left lines = omega arith

-- `revosti_mark_sheet` (`mark` struck) and `revosti_ask_sheet` (`mark` pending)
module _ (mark n : ℕ) (table set s : List ℕ) where
  module _ (p : Passes n (whole32 table) (marks_of n set) (whole16 s)) where
    -- DEMAND 2 in C: a call that passes the tests up to 7 answers r and leaves the set `left` exactly when a chain of
    -- complete lines from record 1 on, each complete under the marks that the lines before it leave, leads to a place
    -- where the sheet stops; r is the number of that verdict and those lines, and `left` the packed set of that place's
    -- marks. The contract says that r and `left` are those of `mark_in_c`, and that is `mark_packed_by` over the numbers
    -- that the bytes are, of which `demand_2_sheet_packed` says it.
    pub demand_2_sheet_in_c : (r : ℕ) (left : List ℕ) → MarkedInC mark n table set s r left ↔ AnswersInC (marking_by mark n (whole32 table)) (whole16 s) (marks_of n set) r left
    demand_2_sheet_in_c r left = (there, back)
      where
        there : MarkedInC mark n table set s r left → AnswersInC (marking_by mark n (whole32 table)) (whole16 s) (marks_of n set) r left
        there m =
            answers_in_c _ _ _ (mark_in_c mark n table set s) r left ((demand_2_sheet_packed mark n (whole32 table) set (whole16 s) p (mark_in_c mark n table set s)).0 refl) m.answered m.set-left

        back : AnswersInC (marking_by mark n (whole32 table)) (whole16 s) (marks_of n set) r left → MarkedInC mark n table set s r left
        back m =
            let e : mark_in_c mark n table set s ≡ packed_result m.result = (demand_2_sheet_packed mark n (whole32 table) set (whole16 s) p (packed_result m.result)).1 (packed_answers m) in
            record {
              answered = m.numbered ∙ sym (packed_number m.result) ∙ ap result_number (sym e);
              set-left = m.set-left ∙ ap (λ (a : Result (List ℕ)). a.marks) (sym e);
            }

    -- every chain of complete lines that ends at index 0 is accepted whole
    pub demand_2_whole_in_c : (lines : List Struck) (q : Place (List ℕ)) → CompleteLines (marking_by mark n (whole32 table)) (whole16 s) (start (marks_of n set)) lines q → q.index ≡ 0 →
        (r : ℕ) (left : List ℕ) → MarkedInC mark n table set s r left → (r ≡ 16777216 * length lines) × (left ≡ packed q.marks)
    demand_2_whole_in_c lines q chain z r left m =
        let e = demand_2_whole_packed mark n (whole32 table) set (whole16 s) p lines q chain z in
        (m.answered ∙ ap result_number e ∙ whole_number (packed q.marks) (length lines), m.set-left ∙ ap (λ (a : Result (List ℕ)). a.marks) e)

    -- a refusal after test 7 has a number from 8 to 16 in bits 0 to 7, and in bits 8 to 23 one of the sheet's records
    pub demand_2_refusal_in_c : (r : ℕ) (left : List ℕ) → MarkedInC mark n table set s r left → ((receipt_in r).refusal ≡ 0 → ⊥) → RefusedAt (whole16 s) (receipt_in r).refusal (receipt_in r).rec
    demand_2_refusal_in_c r left m =
        refusal_in_c (mark_in_c mark n table set s) (of_marking mark n table set s) m.answered m.set-left (whole16 s) (demand_2_refusal_packed mark n (whole32 table) set (whole16 s) p)

    -- what is changed are the marks of the edges that its lines strike
    pub demand_2_struck_in_c : (mark ≡ open_mark → ⊥) → mark ≤ pending_mark → (r : ℕ) (left : List ℕ) → MarkedInC mark n table set s r left →
        (m : AnswersInC (marking_by mark n (whole32 table)) (whole16 s) (marks_of n set) r left) →
        Changes mark n (marks_of n set) (marks_of n left) (struck_edges m.answers.lines) (receipt_in r).lines
    demand_2_struck_in_c other l r left c m =
        changes_in_c (mark_in_c mark n table set s) (of_marking mark n table set s) c.answered c.set-left mark n (marks_of n set) (struck_edges m.answers.lines)
        (subst (λ (a : Result (List ℕ)). Changes mark n (marks_of n set) (marks_of n a.marks) (struck_edges m.answers.lines) a.lines)
        (sym ((demand_2_sheet_packed mark n (whole32 table) set (whole16 s) p (packed_result m.result)).1 (packed_answers m)))
        (demand_2_struck_packed mark n (whole32 table) set (whole16 s) p other l (packed_result m.result) (packed_answers m)))

  -- and so for every call: as many marks change as the answer tells lines in bits 24 to 39, each from open to `mark`
  pub demand_2_changes_in_c : (mark ≡ open_mark → ⊥) → mark ≤ pending_mark → (r : ℕ) (left : List ℕ) → MarkedInC mark n table set s r left →
      (struck : List Edge) × Changes mark n (marks_of n set) (marks_of n left) struck (receipt_in r).lines
  demand_2_changes_in_c other l r left m =
      let c = demand_2_changes_packed mark n (whole32 table) set (whole16 s) other l in
      (c.0, changes_in_c (mark_in_c mark n table set s) (of_marking mark n table set s) m.answered m.set-left mark n (marks_of n set) c.0 c.1)

-- `revosti_mark_between` (02, Paper 11)
module _ (n : ℕ) (low high set s : List ℕ) where
  module _ (p : PassesBetween n (whole32 low) (whole32 high) (marks_of n set) (whole16 s)) where
    pub demand_2_sheet_between_in_c : (r : ℕ) (left : List ℕ) →
        MarkedBetweenInC n low high set s r left ↔ AnswersInC (marking_between struck_mark n (whole32 low) (whole32 high)) (whole16 s) (marks_of n set) r left
    demand_2_sheet_between_in_c r left = (there, back)
      where
        there : MarkedBetweenInC n low high set s r left → AnswersInC (marking_between struck_mark n (whole32 low) (whole32 high)) (whole16 s) (marks_of n set) r left
        there m =
            answers_in_c _ _ _ (mark_between_in_c n low high set s) r left
            ((demand_2_sheet_between_packed n (whole32 low) (whole32 high) set (whole16 s) p (mark_between_in_c n low high set s)).0 refl) m.answered m.set-left

        back : AnswersInC (marking_between struck_mark n (whole32 low) (whole32 high)) (whole16 s) (marks_of n set) r left → MarkedBetweenInC n low high set s r left
        back m =
            let e : mark_between_in_c n low high set s ≡ packed_result m.result
            = (demand_2_sheet_between_packed n (whole32 low) (whole32 high) set (whole16 s) p (packed_result m.result)).1 (packed_answers m) in
            record {
              answered = m.numbered ∙ sym (packed_number m.result) ∙ ap result_number (sym e);
              set-left = m.set-left ∙ ap (λ (a : Result (List ℕ)). a.marks) (sym e);
            }

    pub demand_2_whole_between_in_c : (lines : List Struck) (q : Place (List ℕ)) →
        CompleteLines (marking_between struck_mark n (whole32 low) (whole32 high)) (whole16 s) (start (marks_of n set)) lines q → q.index ≡ 0 →
        (r : ℕ) (left : List ℕ) → MarkedBetweenInC n low high set s r left → (r ≡ 16777216 * length lines) × (left ≡ packed q.marks)
    demand_2_whole_between_in_c lines q chain z r left m =
        let e = demand_2_whole_between_packed n (whole32 low) (whole32 high) set (whole16 s) p lines q chain z in
        (m.answered ∙ ap result_number e ∙ whole_number (packed q.marks) (length lines), m.set-left ∙ ap (λ (a : Result (List ℕ)). a.marks) e)

    pub demand_2_refusal_between_in_c : (r : ℕ) (left : List ℕ) → MarkedBetweenInC n low high set s r left → ((receipt_in r).refusal ≡ 0 → ⊥) → RefusedAt (whole16 s) (receipt_in r).refusal (receipt_in r).rec
    demand_2_refusal_between_in_c r left m =
        refusal_in_c (mark_between_in_c n low high set s) (of_between n low high set s) m.answered m.set-left (whole16 s)
        (demand_2_refusal_between_packed n (whole32 low) (whole32 high) set (whole16 s) p)

    pub demand_2_struck_between_in_c : (r : ℕ) (left : List ℕ) → MarkedBetweenInC n low high set s r left →
        (m : AnswersInC (marking_between struck_mark n (whole32 low) (whole32 high)) (whole16 s) (marks_of n set) r left) →
        Changes struck_mark n (marks_of n set) (marks_of n left) (struck_edges m.answers.lines) (receipt_in r).lines
    demand_2_struck_between_in_c r left c m =
        changes_in_c (mark_between_in_c n low high set s) (of_between n low high set s) c.answered c.set-left struck_mark n (marks_of n set) (struck_edges m.answers.lines)
        (subst (λ (a : Result (List ℕ)). Changes struck_mark n (marks_of n set) (marks_of n a.marks) (struck_edges m.answers.lines) a.lines)
        (sym ((demand_2_sheet_between_packed n (whole32 low) (whole32 high) set (whole16 s) p (packed_result m.result)).1 (packed_answers m)))
        (demand_2_struck_between_packed n (whole32 low) (whole32 high) set (whole16 s) p (packed_result m.result) (packed_answers m)))

  pub demand_2_changes_between_in_c : (r : ℕ) (left : List ℕ) → MarkedBetweenInC n low high set s r left →
      (struck : List Edge) × Changes struck_mark n (marks_of n set) (marks_of n left) struck (receipt_in r).lines
  demand_2_changes_between_in_c r left m =
      let c = demand_2_changes_between_packed n (whole32 low) (whole32 high) set (whole16 s) in
      (c.0, changes_in_c (mark_between_in_c n low high set s) (of_between n low high set s) m.answered m.set-left struck_mark n (marks_of n set) c.0 c.1)
