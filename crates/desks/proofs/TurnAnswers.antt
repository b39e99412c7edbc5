-- "Turn" in code: one lemma for each way out of a line, of a desk's turn and of the whole. Assumes nothing.
use Prim.Native.Nat.{ℕ, ◌+◌, ◌*◌, ◌≤◌, ◌<◌}
use mathlib.Core.Path.{◌≡◌, refl, sym, ◌∙◌, ap, ap₂}
use mathlib.Core.Bool.{Bool, true, false}
use mathlib.Core.List.{List}
use native.Mathlib.Numerals.{add-one}
use native.Mathlib.Omega.{arith}
use lib.ListN.{length}
use Rattle.std.specs.Prelude.{Option, Some, None, Result, Ok, Err}
use Rattle.lists.specs.Test.{unless}
use Rattle.endian.specs.asks.Bytes.{Put}
use Rattle.lengths.specs.Refusal.{refusal_number}
use Rattle.lengths.specs.declared.refusal.Refusal.{Refusal}
use Rattle.lengths.specs.declared.refusal.Refusal.TheVariants as refusal
use Rattle.lengths.specs.declared.refusal.Refused.{Refused}
use Rattle.lengths.specs.asks.Rows.{RowsFilled}
use Rattle.argument.specs.Verdict.{accepted, refused}
use Rattle.argument.specs.Sheet.{Place, line_step}
use Rattle.marks.specs.Mark.{struck_mark}
use Rattle.marks.specs.Packed.{marks_of}
use Rattle.marks.proofs.PackedSets.{repacked_same}
use Rattle.sheets.specs.Rules.{marking_of}
use Rattle.argument.specs.Record.{records}
use Rattle.sheets.specs.Sheet.{whole_sheet}
use Rattle.sheets.specs.Verdict.{Verdict}
use Rattle.sheet_lines.specs.asks.Line.{MarkingAsked, SteppedAs, stepped_of, marks_after}
use Rattle.sheet_lines.specs.declared.line.Strike.{Strike}
use Rattle.marking.specs.Mark.{until_sheet, tested_sheet}
use Rattle.marking.specs.declared.mark.Passed.{Passed}
use Rattle.marking.proofs.MarkingSheets.{sheet_passed, rows_room, sheet_admits, ready_passed}
use Rattle.admission.proofs.Passed.{passed_some, passed_well}
use Rattle.admission.specs.Tests.{ready}
use Rattle.desks.specs.State.{state_bytes, set_number, set_desk, next_index, owner, lines_at, next_desk}
use Rattle.desks.specs.Turn.{DeskSheet, ended, desk_sheet, DeskTurn, turn_to, served_of, waiting, ahead, step_served, turn_from, turn_tested, turn_marks, repack_desk_turn, turn_packed, desk_left, served_left, desk_turned, Turn, turn_of, turn_with, turn, TurnedAs}
use Rattle.desks.specs.asks.State.{SetAs}
use Rattle.desks.specs.asks.Turn.{TurnAdmitted, TurnRows, ServeAsked, PutBackAs, ServedAs}
use Rattle.desks.specs.declared.turn.Served.{Served}
use Rattle.desks.specs.declared.turn.Served.TheVariants.{Waits, Ended}
use Rattle.desks.specs.declared.turn.Turned.{Turned}
use Rattle.desks.proofs.HandInAnswers.{short, long}
use Rattle.desks.proofs.RoundRobin.{next_found, found_serves}
use Rattle.desks.proofs.TurnLeaves.{turned_packed}

-- the line that waits, marked by rows
module _ {n : ℕ} {table rows marks s : List ℕ} {count index lines : ℕ} (asked : TurnRows n table rows marks s count index lines) where
  pub line_asked : {filled : List ℕ} → RowsFilled n table rows filled → MarkingAsked struck_mark n table table filled filled marks s count
  line_asked f = record
      { tried = record { admitted = asked.asked.admitted; in_out = f.all; in_put = f.all }; is_mark = asked.asked.is_mark }

  module _ {owner : ℕ} {r : Result (Option Strike) Refused} {left : List ℕ} (t : SteppedAs struck_mark n table table marks s owner index 0 r left) where
    abbrev here : Place (List ℕ)
    here = waiting marks index owner lines

    steps : {r' : Result (Option Strike) Refused} → r ≡ r' → line_step (marking_of n table) s here ≡ stepped_of here r' left
    steps g = sym (t.answered lines) ∙ ap (λ (x : Result (Option Strike) Refused). stepped_of here x left) g

    leaves : {r' : Result (Option Strike) Refused} → r ≡ r' → left ≡ marks_after here (stepped_of here r' left)
    leaves g = t.marks_left lines ∙ ap (marks_after here) (steps g)

    pub turn_over : r ≡ Ok None → served_of (Ended (Ok lines)) left ≡ turn_from (marking_of n table) s here
    unfolding turn_from step_served
    turn_over g = ap (turn_to (ended lines (accepted tt))) (leaves g) ∙ ap (step_served s here) (sym (steps g))

    pub turn_stops : {x : Refused} → r ≡ Err x → served_of (Ended (Err (record { refused = x; lines = lines }))) left ≡ turn_from (marking_of n table) s here
    unfolding turn_from step_served
    turn_stops {x} g = ap (turn_to (ended lines (refused (refusal_number x.refusal) x.at))) (leaves g) ∙ ap (step_served s here) (sym (steps g))

    pub turn_strikes : {x : Strike} → r ≡ Ok (Some x) → (o : Served) → desk_sheet o ≡ ahead count x.next index x.high (lines + 1) →
        served_of o left ≡ turn_from (marking_of n table) s here
    unfolding turn_from step_served
    turn_strikes {x} g o h =
        ap (λ (y : DeskSheet). turn_to y left)
        (h ∙ ap₂ (λ (c l : ℕ). ahead c x.next index x.high l) asked.asked.admitted.whole.counted (add-one lines))
        ∙ ap (step_served s here) (sym (steps g))

-- an array for the rows of `most` points has room for those of fewer
pub turn_room : {n : ℕ} {table rows marks s : List ℕ} {count index lines : ℕ} (most : ℕ) → TurnAdmitted n table marks s count index lines →
    n ≤ most → length rows ≡ (most + 1) * (most + 1)
    → TurnRows n table rows marks s count index lines
turn_room most a h e = record { asked = rows_room most a.admitted h e e; left = a.left }

-- a sheet that the tests pass is admitted with its instance
pub turn_admits : (n : ℕ) (table set s : List ℕ) {p : Passed} {index lines : ℕ} → tested_sheet n table (marks_of n set) s ≡ Ok p → lines < index →
    TurnAdmitted p.points table (marks_of p.points set) s p.records index lines
turn_admits n table set s e h = record { admitted = sheet_admits n table set s (omega arith) e; left = h }

-- the ways out of a desk's turn, over the packed set
module _ (n : ℕ) (table set s : List ℕ) (index owner lines : ℕ) where
  abbrev over_marks : Result ℕ Refusal → DeskTurn (List ℕ)
  over_marks base = turn_tested base table (marks_of n set) s index owner lines

  -- a failed test leaves the set as it is
  pub turn_untested : {x : Refusal} → tested_sheet n table (marks_of n set) s ≡ Err x →
      turn_to (ended lines (refused (refusal_number x) 0)) set ≡ turn_packed n table set s index owner lines
  unfolding tested_sheet turn_packed turn_marks
  turn_untested {x} h =
      ap (turn_to (ended lines (refused (refusal_number x) 0))) (sym (repacked_same n set)) ∙ ap (repack_desk_turn n set) (sym (by (ready n table (marks_of n set)) h))
    where
      by : (base : Result ℕ Refusal) → until_sheet base s ≡ Err x → over_marks base ≡ turn_to (ended lines (refused (refusal_number x) 0)) (marks_of n set)
      by (Err y) g = let z : y ≡ x = cc in ap (λ (w : Refusal). turn_to (ended lines (refused (refusal_number w) 0)) (marks_of n set)) z
      by (Ok p) g = whole (whole_sheet (length s)) g
        where
          whole : (b : Bool) → ◌≡◌ {A = Result Passed Refusal} (unless b (Err refusal.Sheet) (Ok (record { points = p; records = records s }))) (Err x) →
              unless b (turn_to (ended lines (refused (refusal_number refusal.Sheet) 0)) (marks_of n set)) (turn_from (marking_of p table) s (waiting (marks_of n set) index owner lines))
              ≡ turn_to (ended lines (refused (refusal_number x) 0)) (marks_of n set)
          whole true k = absurd (let f : ◌≡◌ {A = Result Passed Refusal} (Ok (record { points = p; records = records s })) (Err x) = k in cc)
          whole false k = let z : refusal.Sheet ≡ x = cc in ap (λ (w : Refusal). turn_to (ended lines (refused (refusal_number w) 0)) (marks_of n set)) z

  pub turn_marked : {p : Passed} → tested_sheet n table (marks_of n set) s ≡ Ok p → (r : Served) (left : List ℕ) →
      served_of r (marks_of p.points left) ≡ turn_from (marking_of p.points table) s (waiting (marks_of p.points set) index owner lines)
      → served_of r left ≡ turn_packed n table set s index owner lines
  unfolding tested_sheet turn_packed turn_marks
  turn_marked {p} h r left q =
      let i = sheet_passed (ready n table (marks_of n set)) s h in
      let b = ready_passed i.ready in
      let o : DeskTurn (List ℕ) = turn_from (marking_of p.points table) s (waiting (marks_of n set) index owner lines) in
      turned_packed p.points n table s set index owner lines r left (passed_some b) (passed_well set b)
      (ap (λ (k : ℕ). served_of r (marks_of k left)) (sym b.same) ∙ q
      ∙ ap (λ (k : ℕ). turn_from (marking_of p.points table) s (waiting (marks_of k set) index owner lines)) b.same)
      ∙ ap (λ (t : Bool). repack_desk_turn n set (unless t (turn_to (ended lines (refused (refusal_number refusal.Sheet) 0)) (marks_of n set)) o)) (sym i.whole)
      ∙ ap (λ (base : Result ℕ Refusal). repack_desk_turn n set (over_marks base)) (sym i.ready)

-- the desk's numbers that a turn leaves
module _ {state : List ℕ} {d : ℕ} {r : Served} where
  pub put_waits : {index owner lines : ℕ} → r ≡ Waits index owner lines → {left : List ℕ} → SetAs state d index owner lines left →
      PutBackAs state d r left
  put_waits e w = record { kept = w.kept; written = w.written ∙ ap (λ (x : Served). desk_left (desk_sheet x) state d) (sym e) }

  pub put_ended : {v : Verdict} → r ≡ Ended v → {left : List ℕ} → SetAs state d 0 0 0 left → PutBackAs state d r left
  put_ended {v} e w = record { kept = w.kept; written = w.written ∙ ended_left v ∙ ap (λ (x : Served). desk_left (desk_sheet x) state d) (sym e) }
    where
      ended_left : (v : Verdict) → set_desk state d 0 0 0 ≡ desk_left (desk_sheet (Ended v)) state d
      ended_left (Ok lines) = refl
      ended_left (Err x) = refl

-- a desk served
pub desk_served : (state : List ℕ) (d n : ℕ) (table set s : List ℕ) {i o l : ℕ} → i ≡ next_index state d → o ≡ owner state d →
    l ≡ lines_at state d → {r : Served} {left mid out : List ℕ}
    → served_of r left ≡ turn_packed n table set s i o l → PutBackAs state d r mid → Put 2 mid 0 d out →
    ServedAs state d n table set s r out left
unfolding served_left set_number
desk_served state d n table set s {i} {o} {l} ei eo el {r} {left} {mid} {out} e back put =
    let to : turn_packed n table set s i o l ≡ turn_packed n table set s (next_index state d) (owner state d) (lines_at state d) = rw
    (ei, eo, el) in
    let told : desk_sheet r ≡ (turn_packed n table set s (next_index state d) (owner state d) (lines_at state d)).served = ap
    (λ (x : DeskTurn (List ℕ)). x.served) (e ∙ to) in
    record {
      answered = told;
      state_left = put.written ∙ ap (λ (x : List ℕ). set_number x 0 d) back.written ∙ ap (λ (x : DeskSheet). served_left x state d) told;
      set-left = ap (λ (x : DeskTurn (List ℕ)). x.marks) (e ∙ to);
    }

-- the desk that the round robin finds can be served
pub turn_serves : (state : List ℕ) → state_bytes ≤ length state → {d? : Option ℕ} {d : ℕ} → d? ≡ next_desk state → d? ≡ Some d →
    ServeAsked state d
turn_serves state room e g = found_serves room (next_found state (sym e ∙ g))

-- the ways out of a turn
module _ (state : List ℕ) (n : ℕ) (table set s : List ℕ) where
  turned_as : {t : Turn} → turn state n table set s ≡ t → {answer : Result (Option Turned) Refusal} {state-out set_out : List ℕ} → desk_turned answer ≡ t.answer →
      state-out ≡ t.state → set_out ≡ t.marks
      → TurnedAs state n table set s answer state-out set_out
  turned_as e a b c = record {
    answered = a ∙ ap (λ (x : Turn). x.answer) (sym e);
    state_left = b ∙ ap (λ (x : Turn). x.state) (sym e);
    set-left = c
        ∙ ap (λ (x : Turn). x.marks) (sym e);
  }

  pub turn_short : length state < state_bytes → TurnedAs state n table set s (Err refusal.Buffer) state set
  unfolding turn_with
  turn_short h = turned_as (rw (short state h)) refl refl refl

  module _ (room : state_bytes ≤ length state) {d? : Option ℕ} (e : d? ≡ next_desk state) where
    turns : {d : Option ℕ} → d? ≡ d → turn state n table set s ≡ turn_of d state set (turn_packed n table set s)
    unfolding turn_with
    turns g = rw (long state room) (ap (λ (x : Option ℕ). turn_of x state set (turn_packed n table set s)) (sym e ∙ g))

    pub turn_none : d? ≡ None → TurnedAs state n table set s (Ok None) state set
    turn_none g = turned_as (turns g) refl refl refl

    module _ {d : ℕ} (g : d? ≡ Some d) where
      pub turn_served : {r : Served} {state-out set_out : List ℕ} → ServedAs state d n table set s r state-out set_out →
          TurnedAs state n table set s (Ok (Some (record { desk = d; served = r }))) state-out set_out
      turn_served v = turned_as (turns g) (ap (λ (x : DeskSheet). Ok (Some (record { desk = d; sheet = x }))) v.answered) v.state_left v.set-left
