-- The operation "turn" (02, Paper 14): "One turn marks one line of one desk: the next desk after the last served ..
-- that has a line left".
use Rattle.std.specs.Prelude.{ℕ, ◌≡◌, true, false, List, eqb, leb, ltb, length, Option, Some, None, Result, Ok, Err}
use Rattle.lists.specs.Test.{unless}
use Rattle.lengths.specs.Refusal.{refusal_number}
use Rattle.lengths.specs.declared.refusal.Refusal.{Refusal}
use Rattle.lengths.specs.declared.refusal.Refusal.TheVariants as refusal
use Rattle.argument.specs.Verdict.{Verdict, accepted, refused}
use Rattle.argument.specs.Record.{records}
use Rattle.argument.specs.Sheet.{Marking, Place, LineStep, over, onward, line_step}
use Rattle.marks.specs.Packed.{marks_of, repacked}
use Rattle.sheets.specs.Rules.{marking_of}
use Rattle.sheets.specs.Sheet.{whole_sheet}
use Rattle.admission.specs.Tests.{ready}
use Rattle.desks.specs.State.{lent, set_number, next_index, owner, lines_at, set_desk, next_desk}
use Rattle.desks.specs.declared.turn.Served.{Served}
use Rattle.desks.specs.declared.turn.Served.TheVariants.{Waits, Ended}
use Rattle.desks.specs.declared.turn.Turned.{Turned}

-- what comes of a desk's sheet: its next line waits at an index, which the record `owner` has, with so many lines
-- accepted; or the sheet has ended, with so many lines and this verdict
pub data DeskSheet : Type 0 where
  waits : (index owner lines : ℕ) → DeskSheet
  ended : (lines : ℕ) → Verdict (Unit {0}) → DeskSheet

-- the declared answer, with 01's number of a refusal
abbrev pub desk_sheet : Served → DeskSheet
desk_sheet (Waits index owner lines) = waits index owner lines
desk_sheet (Ended (Ok lines)) = ended lines (accepted tt)
desk_sheet (Ended (Err s)) = ended s.lines (refused (refusal_number s.refused.refusal) s.refused.at)

-- what a turn makes of a desk: the marks that it leaves, and what comes of its sheet
pub record DeskTurn (M : Type 0) : Type 0 where
  pub marks : M
  pub served : DeskSheet

abbrev pub turn_to : {M : Type 0} → DeskSheet → M → DeskTurn M
turn_to r left = record { marks = left; served = r }

abbrev pub served_of : {M : Type 0} → Served → M → DeskTurn M
served_of r left = turn_to (desk_sheet r) left

-- where a desk's sheet waits. The highest record entered is not kept: an index that waits was found above it.
abbrev pub waiting : {M : Type 0} → M → (index owner lines : ℕ) → Place M
waiting marks index owner lines = record { marks = marks; lines = lines; last = owner; index = index; high = 0 }

-- "a next index refused by 8 or 9 is told in the turn of the line that has it", of a sheet of so many records; index 0
-- ends the sheet
unfoldable pub ahead : (count index owner high lines : ℕ) → DeskSheet
ahead count index owner high lines =
    elim (eqb index 0) [
      | true ↦ ended lines (accepted tt)
      | false ↦
          unless (leb index count) (ended lines (refused 8 owner))
          (unless (ltb high index) (ended lines (refused 9 owner))
          (waits index owner lines))
    ]

-- one line from a place, and a look at the next index: "A refusal ends that desk's sheet"
unfoldable pub step_served : {M : Type 0} → List ℕ → Place M → Verdict (LineStep M) → DeskTurn M
step_served s p (accepted over) = turn_to (ended p.lines (accepted tt)) p.marks
step_served s p (accepted (onward q)) = turn_to (ahead (records s) q.index q.last q.high q.lines) q.marks
step_served s p (refused number rec) = turn_to (ended p.lines (refused number rec)) p.marks

unfoldable pub turn_from : {M : Type 0} → Marking M → List ℕ → Place M → DeskTurn M
turn_from 𝓜 s p = step_served s p (line_step 𝓜 s p)

-- "A turn first repeats the sheet's tests up to 7": a failure ends the sheet with no record at fault, and its lines are
-- kept
abbrev pub turn_tested : Result ℕ Refusal → (table marks s : List ℕ) → (index owner lines : ℕ) → DeskTurn (List ℕ)
turn_tested (Err refused_by) table marks s index owner lines = turn_to (ended lines (refused (refusal_number refused_by) 0)) marks
turn_tested (Ok n) table marks s index owner lines =
    unless (whole_sheet (length s)) (turn_to (ended lines (refused (refusal_number refusal.Sheet) 0)) marks)
    (turn_from (marking_of n table) s (waiting marks index owner lines))

-- a desk's turn, by its three numbers: over the marks of the edges, and over a packed set
unfoldable pub turn_marks : ℕ → (table marks s : List ℕ) → (index owner lines : ℕ) → DeskTurn (List ℕ)
turn_marks n table marks s index owner lines = turn_tested (ready n table marks) table marks s index owner lines

abbrev pub repack_desk_turn : ℕ → List ℕ → DeskTurn (List ℕ) → DeskTurn (List ℕ)
repack_desk_turn n set r = turn_to r.served (repacked n set r.marks)

unfoldable pub turn_packed : ℕ → (table set s : List ℕ) → (index owner lines : ℕ) → DeskTurn (List ℕ)
turn_packed n table set s index owner lines = repack_desk_turn n set (turn_marks n table (marks_of n set) s index owner lines)

-- the state behind a turn: a desk whose sheet has ended has numbers 0, and the desk is the last served
abbrev pub desk_left : DeskSheet → List ℕ → ℕ → List ℕ
desk_left (waits index owner lines) state d = set_desk state d index owner lines
desk_left (ended lines v) state d = set_desk state d 0 0 0

unfoldable pub served_left : DeskSheet → List ℕ → ℕ → List ℕ
served_left r state d = set_number (desk_left r state d) 0 d

-- the desk that a turn serves, and what comes of its sheet
pub record DeskServed : Type 0 where
  pub desk : ℕ
  pub sheet : DeskSheet

-- the declared answer: none where no desk has a line left
abbrev pub desk_turned : Result (Option Turned) Refusal → Result (Option DeskServed) Refusal
desk_turned (Ok None) = Ok None
desk_turned (Ok (Some t)) = Ok (Some (record { desk = t.desk; sheet = desk_sheet t.served }))
desk_turned (Err refused_by) = Err refused_by

-- what a call of "turn" answers, and the state and the marks that it leaves
pub record Turn : Type 0 where
  pub answer : Result (Option DeskServed) Refusal
  pub state : List ℕ
  pub marks : List ℕ

-- the desk that is served takes its turn as `go` says, by its three numbers; with no line left nothing changes
abbrev pub turn_of : Option ℕ → List ℕ → List ℕ → (go : (index owner lines : ℕ) → DeskTurn (List ℕ)) → Turn
turn_of None state marks go = record { answer = Ok None; state = state; marks = marks }
turn_of (Some d) state marks go =
    let r : DeskTurn (List ℕ) = go (next_index state d) (owner state d) (lines_at state d) in
    record {
      answer = Ok (Some (record { desk = d; sheet = r.served }));
      state = served_left r.served state d;
      marks = r.marks;
    }

unfoldable pub turn_with : List ℕ → List ℕ → (go : (index owner lines : ℕ) → DeskTurn (List ℕ)) → Turn
turn_with state marks go = unless (lent state) (record { answer = Err refusal.Buffer; state = state; marks = marks })
    (turn_of (next_desk state) state marks go)

-- over the marks of the edges, and over a packed set
abbrev pub turn_on_marks : List ℕ → ℕ → (table marks s : List ℕ) → Turn
turn_on_marks state n table marks s = turn_with state marks (turn_marks n table marks s)

abbrev pub turn : List ℕ → ℕ → (table set s : List ℕ) → Turn
turn state n table set s = turn_with state set (turn_packed n table set s)

-- what `turn` ensures: its answer, and the state and the packed set that it leaves
pub record TurnedAs (state : List ℕ) (n : ℕ) (table set s : List ℕ) (answer : Result (Option Turned) Refusal) (state-out set_out : List ℕ)
    : Type 0 where
  pub answered : desk_turned answer ≡ (turn state n table set s).answer
  pub state_left : state-out ≡ (turn state n table set s).state
  pub set-left : set_out ≡ (turn state n table set s).marks
