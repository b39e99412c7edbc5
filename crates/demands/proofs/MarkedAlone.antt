-- MARKED ALONE (02, Paper 14), of the functions for C: "Its verdict and marks are those of its sheet marked alone, if
-- nothing but turns alters n, the table, its sheet or its marks". Assumes nothing.
use Prim.Native.Nat.{ℕ, ◌+◌, ◌-◌, ◌*◌, ◌/◌, ◌%◌, ◌≤◌}
use mathlib.Core.Path.{◌≡◌, refl, sym, ◌∙◌, ap, ap₂, subst}
use mathlib.Core.Bool.{Bool, true, false, not, true≢false}
use mathlib.Core.Logic.{◌⊎◌, inl, inr, ⊎_elim}
use mathlib.Core.List.{List}
use native.Mathlib.Omega.{arith}
use lib.Dec.{eqb, ltb}
use lib.ListN.{length, set}
use Rattle.std.specs.Prelude.{Option, Some, None, Result, Ok, Err}
use Rattle.lengths.specs.declared.refusal.Refusal.{Refusal}
use Rattle.lengths.specs.Refusal.{refuse}
use Rattle.lists.specs.Test.{unless}
use Rattle.endian.specs.Bytes.{whole16, whole32}
use Rattle.marks.specs.Mark.{struck_mark}
use Rattle.marks.specs.Packed.{marks_of}
use Rattle.argument.specs.Verdict.{refused}
use Rattle.sheets.specs.Sheet.{whole_sheet}
use Rattle.admission.specs.Tests.{ready}
use Rattle.desks.specs.HandIn.{hand_in_answer, hand_in_by, hand_in_left}
use Rattle.desks.specs.State.{state_bytes, lent, next_index, owner, lines_at, set_desk, has_line, next_desk}
use Rattle.desks.proofs.DeskNumbers.{desk_length, desk_other, apart, served_length, served_other}
use Rattle.desks.proofs.RoundRobin.{next_found}
use Rattle.revosti.specs.Desk.{handed_number, desk_bit}
use Rattle.revosti.specs.Mark.{result_number, mark_in_c}
use Rattle.revosti.specs.Receipt.{released_bit, above_receipt, receipt_in}
use Rattle.receipts.specs.Receipt.{receipt_of}
use Rattle.receipts.proofs.Views.{receipt_same}
use Rattle.demands.specs.SheetAnswer.{of_marking}
use Rattle.demands.specs.Desks.{Buffers, turning, state_after, Seen, Meanwhile, nothing, hands_in, other_served, served, EndedAlone, MarkedAlone}
use Rattle.demands.proofs.Fair.{found_asked, state_served, turn_nothing_left, handed_over, HandsIn, refused, taken}
use Rattle.demands.proofs.Fair as fair
use Rattle.demands.proofs.Receipts.{marked_receipt}
use Rattle.demands.proofs.OwnTurns.{sheet_passed, Going, Gone, going_line, goes, going_start}
use Rattle.revosti.proofs.RefusalNumbers.{number_within}

-- the desk d with its n, the table and the sheet as bytes, the packed set at handing in, and that the sheet passed its
-- tests
module _ (d n : ℕ) (table set₀ s : List ℕ) (tests-passed : ready n (whole32 table) (marks_of n set₀) ≡ Ok n)
    (whole : whole_sheet (length (whole16 s)) ≡ true) where
  abbrev Goes : ℕ → Seen → Type 0
  Goes = Going d n table set₀ s tests-passed whole

  abbrev Ends : ℕ → Seen → Type 0
  Ends = Gone d n table set₀ s tests-passed whole

  -- others hand in or are served: the desk's own numbers stay
  record Stays (state left : List ℕ) : Type 0 where
    pub room : state_bytes ≤ length left
    pub index : next_index left d ≡ next_index state d
    pub last : owner left d ≡ owner state d
    pub counted : lines_at left d ≡ lines_at state d

  going_on : {k : ℕ} {x : Seen} {left : List ℕ} → Stays x.state left → Goes k x →
      Goes k (record { state = left; set = x.set; answer = x.answer })
  going_on y g =
      record {
        room = y.room;
        lines = g.lines;
        place = g.place;
        chain = g.chain;
        goes_on = g.goes_on;
        marked = g.marked;
        bytes = g.bytes;
        none = g.none;
        index = y.index ∙ g.index;
        last = y.last ∙ g.last;
        counted = y.counted ∙ g.counted;
        all_lines = g.all_lines;
        low = g.low;
        above = g.above;
        inside = g.inside;
        answered = g.answered;
      }

  gone_on : {k : ℕ} {x : Seen} {left : List ℕ} → Stays x.state left → Ends k x →
      Ends k (record { state = left; set = x.set; answer = x.answer })
  unfolding has_line
  gone_on y g =
      record {
        room = y.room;
        free = ap₂ ltb y.counted y.index ∙ g.free;
        few = g.few;
        ended = record { answered = g.ended.answered; marked = g.ended.marked };
      }

  module _ (low : 1 ≤ d) where
    handed_stays : {state : List ℕ} (e : ℕ) {left : List ℕ} → state_bytes ≤ length state → (e ≡ d → has_line state d ≡ true) → HandsIn state e left →
        Stays state left
    handed_stays {state} e room own refused = record { room = room; index = refl; last = refl; counted = refl }
    handed_stays {state} e room own (taken a free) =
        let other : d ≡ e → ⊥ = λ z. true≢false (sym (own (sym z)) ∙ ap (has_line state) z ∙ free) in
        record {
          room = omega (arith, desk_length a 1 0 0, room);
          index = desk_other a 1 0 0 (3 * d - 2) (apart (3 * d - 2) (omega arith) (omega arith) other);
          last = desk_other a 1 0 0 (3 * d - 1) (apart (3 * d - 1) (omega arith) (omega arith) other);
          counted = desk_other a 1 0 0 (3 * d) (apart (3 * d) (omega arith) (omega arith) other);
        }

    turn_stays : (state : List ℕ) → state_bytes ≤ length state → (next_desk state ≡ Some d → ⊥) → (b : Buffers) →
        Stays state (state_after (turning b) state)
    turn_stays state room other b = by (next_desk state) refl
      where
        by : (m : Option ℕ) → next_desk state ≡ m → Stays state (state_after (turning b) state)
        by None e = subst (Stays state) (sym (turn_nothing_left state room b e))
            (record { room = room; index = refl; last = refl; counted = refl })
        by (Some m) e =
            let a = found_asked room e in
            let t = state_served state room b e in
            let else : d ≡ m → ⊥ = λ z. other (e ∙ ap Some (sym z)) in
            subst (Stays state) (sym t.1)
            (record {
              room = omega (arith, served_length a t.0, room);
              index = served_other a t.0 (3 * d - 2) (omega arith) (apart (3 * d - 2) (omega arith) (omega arith) else);
              last = served_other a t.0 (3 * d - 1) (omega arith) (apart (3 * d - 1) (omega arith) (omega arith) else);
              counted = served_other a t.0 (3 * d) (omega arith) (apart (3 * d) (omega arith) (omega arith) else);
            })

    -- whatever happens, the desk's sheet goes on or has ended
    happens : {from : Seen} → Goes 0 from → {k : ℕ} {x : Seen} → Meanwhile d n table s from k x → Goes k x ⊎ Ends k x
    happens g nothing = inl g
    happens g (hands_in {x = x} m e b own) =
        ⊎_elim
        (λ h. inl (going_on (handed_stays e h.room own (fair.hands_in x.state e b)) h))
        (λ h. inr (gone_on (handed_stays e h.room own (fair.hands_in x.state e b)) h))
        (happens g m)
    happens g (other_served {x = x} m other b) =
        ⊎_elim (λ h. inl (going_on (turn_stays x.state h.room other b) h))
        (λ h. inr (gone_on (turn_stays x.state h.room other b) h)) (happens g m)
    happens g (served {x = x} m mine) = ⊎_elim (λ h. goes d n table set₀ s tests-passed whole h mine)
        (λ h. absurd (true≢false (sym (next_found x.state mine).left ∙ h.free))) (happens g m)

-- an answer 0 of `revosti_hand_in` is that the sheet is taken: no refusal has the number 0
done_at_0 : (r : Result Unit Refusal) → handed_number r ≡ 0 → r ≡ Ok tt
done_at_0 (Ok done) e = refl
done_at_0 (Err k) e = absurd (omega (arith, e, number_within k))

-- MARKED ALONE: let `revosti_hand_in` answer 0 for the desk d with n, table, marks and sheet, from any state of any
-- bytes, and let any list of turns and handings-in follow, of any desks and with any buffers, of d itself with its own
-- n, table and sheet and the marks as its turns leave them. Then d is served in at most as many turns as its sheet has
-- records. Once it has no line left, its last answer is that of `revosti_mark_sheet` on the marks at handing in, with
-- the desk in the bits from 48 on, and its marks are those that `revosti_mark_sheet` leaves. Before, its marks and
-- lines are those behind a chain of complete lines that marking begins with. Between two of its turns nothing changes
-- the three numbers of d, nor its marks: other turns and handings-in write numbers of other desks, and handing in at d
-- is refused. They say where the sheet stands: its next index, the record that has it, and the lines; the highest
-- record entered lies below the index, so that test 9 need not be repeated. A turn of d passes the tests again, since
-- struck marks are marks with nothing pending, and judges the line at the index under the marks that marking alone
-- finds there. If it is refused, marking alone stops there as well. If it is accepted, what the rest of the sheet comes
-- to from the place behind it is what it came to before (`lines_go_on`), and the next index is read as marking alone
-- reads it: 0 ends the sheet, 8 and 9 refuse it, else the line there waits. Each line enters a record above all entered
-- before, so there are no more turns than records.
pub marked_alone : (state : List ℕ) (d n : ℕ) (table set s : List ℕ) →
    handed_number (hand_in_answer state d n (whole32 table) (marks_of n set) (whole16 s)) ≡ 0 → {turns : ℕ} {x : Seen}
    → Meanwhile d n table s
    (record { state = hand_in_left state d n (whole32 table) (marks_of n set) (whole16 s); set = set; answer = 0 }) turns x →
    MarkedAlone d n table set s turns x
unfolding hand_in_left
marked_alone state d n table set s e {turns} {x} m =
    let done = done_at_0 (hand_in_answer state d n (whole32 table) (marks_of n set) (whole16 s)) e in
    let h = handed_over state d n (whole32 table) (marks_of n set) (whole16 s) done in
    let p = sheet_passed n (whole32 table) (marks_of n set) (whole16 s) h.passed in
    let from : hand_in_left state d n (whole32 table) (marks_of n set) (whole16 s) ≡ set_desk state d 1 0 0 = ap
    (λ (r : Result Unit Refusal). hand_in_by r state d) done in
    told p.0 p.1
    (happens d n table set s p.0 p.1 h.asked.low
    (subst (λ (y : List ℕ). Going d n table set s p.0 p.1 0 (record { state = y; set = set; answer = 0 })) (sym from)
    (going_start state d n table set s p.0 p.1 h.asked)) m)
  where
    told : (p : ready n (whole32 table) (marks_of n set) ≡ Ok n) (w : whole_sheet (length (whole16 s)) ≡ true)
        → Going d n table set s p w turns x ⊎ Gone d n table set s p w turns x → MarkedAlone d n table set s turns x
    told p w (inl g) =
        record {
          few = omega (arith, g.low, g.above, g.inside);
          ended = λ f. absurd (true≢false (sym (going_line d n table set s p w g) ∙ f));
          part = λ f. record {
            lines = g.lines;
            place = g.place;
            chain = g.chain;
            goes_on = g.goes_on;
            marked = g.marked;
            counted = g.counted ∙ g.all_lines;
            all_lines = g.all_lines;
            answered = g.answered;
          };
        }
    told p w (inr g) = record { few = g.few; ended = λ f. g.ended; part = λ f. absurd (true≢false (sym f ∙ g.free)) }

-- a slip does not read the bits above its own
receipt_above : (k j : ℕ) → receipt_in (k + above_receipt * j) ≡ receipt_in k
receipt_above k j =
    receipt_same (omega arith) (omega arith) (omega arith)
    (ap (λ (b : ℕ). eqb b 1) (let e : (k + above_receipt * j) / released_bit % 2 ≡ k / released_bit % 2 = omega arith in e))

-- THE SLIP: the last answer of a desk whose sheet has ended is the slip of the sheet marked alone, not released
pub ended_receipt : {d n : ℕ} {table set s : List ℕ} {x : Seen} → EndedAlone d n table set s x →
    receipt_in x.answer ≡ receipt_of (mark_in_c struck_mark n table set s)
ended_receipt {d} {n} {table} {set} {s} e =
    let bits : desk_bit * d ≡ above_receipt * (128 * d) = omega arith in
    ap receipt_in (e.answered ∙ ap (λ (b : ℕ). result_number (mark_in_c struck_mark n table set s) + b) bits)
    ∙ receipt_above (result_number (mark_in_c struck_mark n table set s)) (128 * d)
    ∙ marked_receipt (of_marking struck_mark n table set s)
