-- PAPER 13 for marked sheets: every answer of *mark a sheet*, over one table or two, and of *ask a sheet* for C is an
-- unreleased slip, whose values are the refusal number or 0, the record and the lines of what marking answers; it tells
-- that the sheet stopped exactly where marking refuses; and the examiner's bytes tell every answer from every other.
-- Assumes nothing.
use Prim.Native.Nat.{ℕ, zero, suc, ◌+◌, ◌*◌, ◌≤◌, ◌<◌}
use mathlib.Core.Path.{◌≡◌, refl, sym, ◌∙◌, ap, subst}
use mathlib.Core.Bool.{Bool, true, false, not, true≢false}
use mathlib.Core.Logic.{◌↔◌}
use mathlib.Core.List.{List}
use native.Mathlib.Omega.{arith}
use lib.Dec.{eqb}
use lib.ListN.{length}
use borrow.Author.Tests.{ne_eqb}
use Rattle.std.specs.Prelude.{Result as Outcome, Ok, Err}
use Rattle.lengths.specs.Refusal.{refusal_number}
use Rattle.lengths.specs.declared.refusal.Refusal.{Refusal}
use Rattle.lengths.specs.declared.refusal.Refusal.TheVariants as refusal
use Rattle.lists.specs.Test.{unless}
use Rattle.endian.specs.Bytes.{whole16, whole32}
use Rattle.marks.specs.Mark.{struck_mark}
use Rattle.marks.specs.Packed.{marks_of}
use Rattle.argument.specs.Verdict.{Verdict, accepted, refused}
use Rattle.argument.specs.Record.{records}
use Rattle.argument.specs.Sheet.{Marking, Place, LineStep, over, onward, struck, line_step, Result, answer, proceed, lines_by, lines_from, start, sheet}
use Rattle.argument.specs.Line.{Struck, strikes}
use Rattle.argument.proofs.Sheet.{step_says}
use Rattle.argument.proofs.Verdicts.{refused_accepted}
use Rattle.sheets.specs.Rules.{marking_between}
use Rattle.sheets.specs.Sheet.{whole_sheet}
use Rattle.sheets.proofs.Records.{sheet_records}
use Rattle.admission.specs.Tests.{ready_between, tested, ready}
use Rattle.marking.specs.MarkBetween.{mark_between, mark_between_packed}
use Rattle.marking.specs.Mark.{turned_down, mark_tested, mark_by, mark_packed_by}
use Rattle.receipts.specs.Receipt.{new_receipt, receipt_of, stopped?, flag_of, Fits}
use Rattle.receipts.specs.View.{examiner_view, candidate_view}
use Rattle.receipts.specs.declared.receipt.Receipt.{Receipt}
use Rattle.receipts.proofs.Views.{examiner_tells, unreleased_alike}
use Rattle.revosti.specs.Mark.{verdict_number, result_number}
use Rattle.revosti.specs.Receipt.{receipt_in, receipt_number}
use Rattle.revosti.proofs.ReceiptNumbers.{receipt_read}
use Rattle.demands.specs.SheetAnswer.{SheetAnswer, of_marking, of_between}
use Rattle.demands.proofs.SheetLines.{answers_refusal}
use Rattle.revosti.proofs.RefusalNumbers.{number_within}

-- a result whose values have few bits, and whose refusal has a number
record Noted (r : Result (List ℕ)) : Type 0 where
  pub few : r.lines < 65536
  pub told : (number at : ℕ) → r.verdict ≡ refused number at → (1 ≤ number) × (number < 256) × (at < 65536)

-- a sheet accepts no more lines than it is given steps
module _ {M : Type 0} (𝓜 : Marking M) (s : List ℕ) where
  line_counted : (p : Place M) (x : Struck) → (struck 𝓜 p x).lines ≡ suc p.lines
  unfolding struck
  line_counted p (strikes a b next high) = refl

  lines_few : (fuel : ℕ) (p : Place M) → (lines_by 𝓜 s fuel p).lines ≤ p.lines + fuel
  unfolding lines_by proceed answer
  lines_few zero p = omega arith
  lines_few (suc fuel) p = by (line_step 𝓜 s p) refl (lines_few fuel)
    where
      by : (v : Verdict (LineStep M)) → line_step 𝓜 s p ≡ v → ((p' : Place M) → (lines_by 𝓜 s fuel p').lines ≤ p'.lines + fuel)
          → (proceed (lines_by 𝓜 s fuel) p v).lines ≤ p.lines + suc fuel
      by (accepted over) e ih = omega arith
      by (accepted (onward p')) e ih =
          let m = step_says 𝓜 s p (onward p') e in
          omega (arith, ih p', ap (λ (q : Place M). q.lines) m.place, line_counted p m.x)
      by (refused number at) e ih = omega arith

  sheet_few : (m : M) → (sheet 𝓜 s m).lines ≤ suc (records s)
  unfolding sheet lines_from start
  sheet_few m = omega (arith, lines_few (suc (records s)) (start m))

-- what marking answers has few bits: a refusal before test 8 names no record, a later one is 8 to 16 at one of the
-- sheet's records
module _ (mark : ℕ) (out put marks s : List ℕ) where
  refused_first : (r : Refusal) → Noted (turned_down r marks)
  refused_first r = record {
    few = omega arith;
    told = λ k at e.
        let h = number_within r in
        let same : refusal_number r ≡ k = cc in
        let none : ◌≡◌ {A = ℕ} 0 at = cc in (omega (arith, h), omega (arith, h), omega arith);
  }

  tested_noted : (t : Outcome ℕ Refusal) → Noted (mark_tested mark t out put marks s)
  tested_noted (Err r) = refused_first r
  tested_noted (Ok n) = whole (whole_sheet (length s)) refl
    where
      whole : (b : Bool) → whole_sheet (length s) ≡ b → Noted (unless b (turned_down refusal.Sheet marks) (sheet (marking_between mark n out put) s marks))
      whole false w = refused_first refusal.Sheet
      whole true w =
          let most = sheet_records s w in
          record {
            few = omega (arith, sheet_few (marking_between mark n out put) s marks, most.few);
            told = λ number at e.
                let r = answers_refusal mark n out put marks s (sheet (marking_between mark n out put) s marks) refl w number at e in
                (omega (arith, r.low), omega (arith, r.high), omega (arith, r.named.high, most.few));
          }

mark_noted : (mark n : ℕ) (table set s : List ℕ) → Noted (mark_packed_by mark n table set s)
unfolding mark_packed_by mark_by
mark_noted mark n table set s =
    let m = tested_noted mark table table (marks_of n set) s (ready n table (marks_of n set)) in record { few = m.few; told = m.told }

between_noted : (n : ℕ) (low high set s : List ℕ) → Noted (mark_between_packed n low high set s)
unfolding mark_between_packed mark_between
between_noted n low high set s =
    let m = tested_noted struck_mark low high (marks_of n set) s (ready_between n low high (marks_of n set)) in record { few = m.few; told = m.told }

-- the slip of such a result
module _ {r : Result (List ℕ)} (h : Noted r) where
  noted_fits : Fits (receipt_of r)
  noted_fits = by r.verdict refl
    where
      by : (v : Verdict (Unit {0})) → r.verdict ≡ v → Fits (new_receipt v r.lines)
      by (accepted u) e = record { refusal_fits = omega arith; rec_fits = omega arith; lines_fit = h.few }
      by (refused number at) e = let t = h.told number at e in record { refusal_fits = t.1; rec_fits = t.2; lines_fit = h.few }

  noted_number : result_number r ≡ receipt_number (receipt_of r)
  noted_number = by r.verdict
    where
      by : (v : Verdict (Unit {0})) → verdict_number v + 16777216 * r.lines ≡ receipt_number (new_receipt v r.lines)
      by (accepted u) = omega arith
      by (refused number at) = omega arith

  noted_receipt : receipt_in (result_number r) ≡ receipt_of r
  noted_receipt = ap receipt_in (noted_number ∙ omega arith) ∙ receipt_read (receipt_of r) 0 noted_fits

  noted_new : (receipt_of r).released ≡ false
  noted_new = by r.verdict
    where
      by : (v : Verdict (Unit {0})) → (new_receipt v r.lines).released ≡ false
      by (accepted u) = refl
      by (refused number at) = refl

  noted_lines : (receipt_of r).lines ≡ r.lines
  noted_lines = by r.verdict
    where
      by : (v : Verdict (Unit {0})) → (new_receipt v r.lines).lines ≡ r.lines
      by (accepted u) = refl
      by (refused number at) = refl

  noted_stopped : (stopped? (receipt_of r) ≡ false) ↔ (r.verdict ≡ accepted tt)
  noted_stopped = by r.verdict refl
    where
      by : (v : Verdict (Unit {0})) → r.verdict ≡ v → (stopped? (new_receipt v r.lines) ≡ false) ↔ (v ≡ accepted tt)
      by (accepted u) e = (λ _. refl, λ _. refl)
      by (refused number at) e =
          let some : not (eqb number 0) ≡ true = rw (ne_eqb number 0 (λ z. omega (arith, (h.told number at e).0, z))) in
          (λ z. absurd (true≢false (sym some ∙ z)), λ z. absurd (refused_accepted z))

-- for C, of marking over one table or two, and of asking
noted : {r : Result (List ℕ)} → SheetAnswer r → Noted r
noted (of_marking mark n table set s) = mark_noted mark n (whole32 table) set (whole16 s)
noted (of_between n low high set s) = between_noted n (whole32 low) (whole32 high) set (whole16 s)

module _ {r : Result (List ℕ)} (answer : SheetAnswer r) where
  -- MADE FROM A MARKED SHEET'S ANSWER: the answer for C is the slip of what marking answers, its four values in their
  -- bits. Each value keeps to its bits: a refusal before the lines is 1 to 25 and names no record, a later one is 8 to
  -- 16 and names one of at most 4,000 (`answers_refusal`), and a step of a sheet accepts at most one line, of which
  -- there are no more steps than records and one. So reading the bits gives the values back (`receipt_read`).
  pub marked_receipt : receipt_in (result_number r) ≡ receipt_of r
  marked_receipt = noted_receipt (noted answer)

  -- a new one is not released
  pub marked_new : (receipt_in (result_number r)).released ≡ false
  marked_new = ap (λ (t : Receipt). t.released) marked_receipt ∙ noted_new (noted answer)

  -- it did not stop exactly where the sheet was accepted
  pub marked_stopped : (stopped? (receipt_in (result_number r)) ≡ false) ↔ (r.verdict ≡ accepted tt)
  marked_stopped = subst (λ (t : Receipt). (stopped? t ≡ false) ↔ (r.verdict ≡ accepted tt)) (sym marked_receipt) (noted_stopped (noted answer))

-- equal tests are alike in failing
alike : (b d : Bool) → ((b ≡ false) ↔ (d ≡ false)) → b ≡ d
alike true true h = refl
alike true false h = h.1 refl
alike false true h = sym (h.0 refl)
alike false false h = refl

-- of any two calls, which may be of different functions
module _ {r r' : Result (List ℕ)} (answer : SheetAnswer r) (answer' : SheetAnswer r') where
  one : Noted r
  one = noted answer

  two : Noted r'
  two = noted answer'

  -- THE EXAMINER'S BYTES tell every answer of marking from every other: equal bytes are of equal slips
  -- (`examiner_tells`), and the answer is its slip's number.
  pub examiner_tells_sheets : examiner_view (receipt_in (result_number r)) ≡ examiner_view (receipt_in (result_number r')) → result_number r ≡ result_number r'
  examiner_tells_sheets e =
      noted_number one
      ∙ ap receipt_number (examiner_tells (noted_fits one) (noted_fits two) (ap examiner_view (sym (noted_receipt one)) ∙ e ∙ ap examiner_view (noted_receipt two)))
      ∙ sym (noted_number two)

  -- UNRELEASED: the slips of the two calls read the same to the candidate, byte for byte, exactly when as many lines
  -- were accepted in both and both sheets were accepted or both stopped: `unreleased_alike` of the two slips, whose
  -- lines are the lines accepted and which stopped exactly where marking refuses.
  pub candidate_alike_sheets :
      (candidate_view (receipt_in (result_number r)) ≡ candidate_view (receipt_in (result_number r'))) ↔ ((r.lines ≡ r'.lines) × ((r.verdict ≡ accepted tt) ↔ (r'.verdict ≡ accepted tt)))
  candidate_alike_sheets = (there, back)
    where
      told : (candidate_view (receipt_of r) ≡ candidate_view (receipt_of r')) ↔ (((receipt_of r).lines ≡ (receipt_of r').lines) × (stopped? (receipt_of r) ≡ stopped? (receipt_of r')))
      told = unreleased_alike (noted_fits one) (noted_fits two) (noted_new one) (noted_new two)

      there : candidate_view (receipt_in (result_number r)) ≡ candidate_view (receipt_in (result_number r')) → (r.lines ≡ r'.lines) × ((r.verdict ≡ accepted tt) ↔ (r'.verdict ≡ accepted tt))
      there e =
          let t = told.0 (ap candidate_view (sym (noted_receipt one)) ∙ e ∙ ap candidate_view (noted_receipt two)) in (
            sym (noted_lines one) ∙ t.0 ∙ noted_lines two,
            (λ v. (noted_stopped two).0 (sym t.1 ∙ (noted_stopped one).1 v), λ v. (noted_stopped one).0 (t.1 ∙ (noted_stopped two).1 v)),
          )

      back : (r.lines ≡ r'.lines) × ((r.verdict ≡ accepted tt) ↔ (r'.verdict ≡ accepted tt)) → candidate_view (receipt_in (result_number r)) ≡ candidate_view (receipt_in (result_number r'))
      back h =
          ap candidate_view (noted_receipt one)
          ∙ told.1 (
            noted_lines one ∙ h.0 ∙ sym (noted_lines two),
            alike (stopped? (receipt_of r)) (stopped? (receipt_of r'))
                (λ z. (noted_stopped two).1 (h.1.0 ((noted_stopped one).0 z)), λ z. (noted_stopped one).1 (h.1.1 ((noted_stopped two).0 z))),
          )
          ∙ ap candidate_view (sym (noted_receipt two))
