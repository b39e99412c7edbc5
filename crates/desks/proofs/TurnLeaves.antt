-- The marks that a turn leaves: what an accepted line keeps of the marks, a turn keeps. Over a packed set, it leaves
-- the packed set of what it leaves of the marks. Assumes nothing.
use Prim.Native.Nat.{ℕ, ◌<◌}
use mathlib.Core.Path.{◌≡◌, refl, sym, ◌∙◌, ap}
use mathlib.Core.Bool.{Bool, true, false}
use mathlib.Core.List.{List}
use native.Mathlib.Omega.{arith}
use lib.ListN.{length}
use Rattle.std.specs.Prelude.{Option, Some, None, Result, Ok, Err}
use Rattle.lists.specs.Test.{unless}
use Rattle.lengths.specs.Edge.{edge_count}
use Rattle.lengths.specs.Refusal.{refusal_number}
use Rattle.lengths.specs.declared.refusal.Refusal.{Refusal}
use Rattle.lengths.specs.declared.refusal.Refusal.TheVariants as refusal
use Rattle.argument.specs.Verdict.{Verdict, accepted, refused}
use Rattle.argument.specs.Sheet.{Marking, Place, LineStep, over, onward, line_step}
use Rattle.argument.proofs.Safe.{step_keeps}
use Rattle.marks.specs.Mark.{struck_mark}
use Rattle.marks.specs.Packed.{ByteSet, packed, well_packed, marks_of, repacked}
use Rattle.marks.proofs.PackedMarks.{held_set, held_packed}
use Rattle.sheets.specs.Rules.{marking_of}
use Rattle.sheets.specs.Sheet.{whole_sheet}
use Rattle.marking.proofs.MarkingSheets.{struck-set}
use Rattle.admission.specs.Tests.{ready}
use Rattle.desks.specs.State.{lent, next_index, owner, lines_at, next_desk}
use Rattle.desks.specs.Turn.{DeskSheet, ended, DeskServed, DeskTurn, turn_to, served_of, waiting, step_served, turn_from, turn_tested, turn_marks, repack_desk_turn, turn_of, turn_with, turn_on_marks}
use Rattle.desks.specs.declared.turn.Served.{Served}

-- a turn changes marks only by an accepted line
module _ {M : Type 0} (P : M → Type 0) where
  pub from_keeps : (𝓜 : Marking M) (s : List ℕ) (p : Place M) → P p.marks →
      ((q : Place M) → line_step 𝓜 s p ≡ accepted (onward q) → P q.marks) →
      P (turn_from 𝓜 s p).marks
  unfolding turn_from step_served
  from_keeps 𝓜 s p k go = by (line_step 𝓜 s p) refl
    where
      by : (v : Verdict (LineStep M)) → line_step 𝓜 s p ≡ v → P (step_served s p v).marks
      by (accepted over) e = k
      by (accepted (onward q)) e = go q e
      by (refused number rec) e = k

-- behind any tests
pub tested_keeps : (P : List ℕ → Type 0) (table marks s : List ℕ) (index owner lines : ℕ) → P marks → (t : Result ℕ Refusal) →
    ((n : ℕ) → t ≡ Ok n → P (turn_from (marking_of n table) s (waiting marks index owner lines)).marks) →
    P (turn_tested t table marks s index owner lines).marks
tested_keeps P table marks s index owner lines k (Err x) go = k
tested_keeps P table marks s index owner lines k (Ok n) go = whole (whole_sheet (length s))
  where
    whole : (b : Bool) →
        P (unless b (turn_to (ended lines (refused (refusal_number refusal.Sheet) 0)) marks)
        (turn_from (marking_of n table) s (waiting marks index owner lines))).marks
    whole true = go n refl
    whole false = k

-- whatever the state is, the marks are those that were found, or those that a desk's turn leaves
pub turn_keeps : (P : List ℕ → Type 0) (state marks : List ℕ) (go : (index owner lines : ℕ) → DeskTurn (List ℕ)) → P marks →
    ((index owner lines : ℕ) → P (go index owner lines).marks) → P (turn_with state marks go).marks
unfolding turn_with
turn_keeps P state marks go k each = room (lent state)
  where
    served : (d : Option ℕ) → P (turn_of d state marks go).marks
    served None = k
    served (Some d) = each _ _ _

    room : (b : Bool) →
        P (unless b (record { answer = Err refusal.Buffer; state = state; marks = marks }) (turn_of (next_desk state) state marks go)).marks
    room true = served (next_desk state)
    room false = k

-- marks of n points that a turn has marked are marks of n points
pub from_set : (p : ℕ) {n : ℕ} (table s : List ℕ) {marks : List ℕ} (index owner lines : ℕ) → ByteSet n marks →
    ByteSet n (turn_from (marking_of p table) s (waiting marks index owner lines)).marks
from_set p {n} table s {marks} index owner lines b =
    let at : Place (List ℕ) = waiting marks index owner lines in
    from_keeps (ByteSet n) (marking_of p table) s at b
    (λ q e. step_keeps (marking_of p table) (ByteSet n) (struck-set struck_mark p (omega arith)) s at q b e)

pub marks_set_turned : {p : ℕ} (n : ℕ) (table s : List ℕ) {marks : List ℕ} (index owner lines : ℕ) → ByteSet p marks →
    ByteSet p (turn_marks n table marks s index owner lines).marks
unfolding turn_marks
marks_set_turned {p} n table s {marks} index owner lines b =
    tested_keeps (ByteSet p) table marks s index owner lines b (ready n table marks) (λ m e. from_set m table s index owner lines b)

pub turn_byte_set : {p : ℕ} (state : List ℕ) (n : ℕ) (table s : List ℕ) {marks : List ℕ} → ByteSet p marks →
    ByteSet p (turn_on_marks state n table marks s).marks
turn_byte_set {p} state n table s {marks} b =
    turn_keeps (ByteSet p) state marks (turn_marks n table marks s) b (λ index owner lines. marks_set_turned n table s index owner lines b)

-- a line that is marked over the marks of a well packed set leaves the packed set of what it leaves
pub turned_packed : (p n : ℕ) (table s set : List ℕ) (index owner lines : ℕ) (r : Served) (left : List ℕ) → 0 < edge_count n →
    well_packed n set ≡ true
    → served_of r (marks_of n left) ≡ turn_from (marking_of p table) s (waiting (marks_of n set) index owner lines)
    → served_of r left ≡ repack_desk_turn n set (turn_from (marking_of p table) s (waiting (marks_of n set) index owner lines))
unfolding repacked
turned_packed p n table s set index owner lines r left some h q =
    let o : DeskTurn (List ℕ) = turn_from (marking_of p table) s (waiting (marks_of n set) index owner lines) in
    let m : marks_of n left ≡ o.marks = ap (λ (x : DeskTurn (List ℕ)). x.marks) q in
    let e : left ≡ packed o.marks = held_packed left some m (from_set p table s index owner lines (held_set n set h)) in
    ap (served_of r) e ∙ ap (λ (x : DeskSheet). turn_to x (packed o.marks)) (ap (λ (x : DeskTurn (List ℕ)). x.served) q) ∙ sym (rw h)

-- the desk that a turn serves is the one that the round robin finds
module _ (state marks : List ℕ) (go : (index owner lines : ℕ) → DeskTurn (List ℕ)) where
  pub turned_desk : {d : ℕ} {r : DeskSheet} → (turn_with state marks go).answer ≡ Ok (Some (record { desk = d; sheet = r })) → next_desk state ≡ Some d
  unfolding turn_with
  turned_desk {d} {r} = room (lent state)
    where
      room : (b : Bool) →
          (unless b (record { answer = Err refusal.Buffer; state = state; marks = marks }) (turn_of (next_desk state) state marks go)).answer
          ≡ Ok (Some (record { desk = d; sheet = r })) → next_desk state ≡ Some d
      room true e = by (next_desk state) refl e
        where
          by : (x : Option ℕ) → next_desk state ≡ x → (turn_of x state marks go).answer ≡ Ok (Some (record { desk = d; sheet = r })) → next_desk state ≡ Some d
          by None f g = absurd (let z : ◌≡◌ {A = ℕ} 0 1 = cc in omega arith)
          by (Some k) f g =
              let i : ◌≡◌ {A = DeskServed} (record { desk = k; sheet = (go (next_index state k) (owner state k) (lines_at state k)).served }) (record { desk = d; sheet = r }) = cc in f ∙ ap (λ (y : DeskServed). Some y.desk) i
      room false e = absurd (let z : ◌≡◌ {A = ℕ} 0 1 = cc in omega arith)
