-- What happens at the desks (02, Paper 14): turns and handings-in, by the functions for C, one after the other. "if
-- only turns and handing in alter the desks' state".
use Rattle.std.specs.Prelude.{ℕ, suc, ◌+◌, ◌*◌, ◌≤◌, ◌<◌, ◌≡◌, true, false, ◌⊎◌, List, [], ◌∷◌, Some, length, get_or}
use Rattle.endian.specs.Bytes.{whole16, whole32}
use Rattle.marks.specs.Mark.{struck_mark}
use Rattle.marks.specs.Packed.{packed, marks_of}
use Rattle.argument.specs.Line.{Struck}
use Rattle.argument.specs.Record.{records}
use Rattle.argument.specs.Sheet.{Place, lines_from, start, sheet}
use Rattle.argument.specs.Answers.{CompleteLines}
use Rattle.sheets.specs.Rules.{marking_of}
use Rattle.desks.specs.HandIn.{hand_in_left}
use Rattle.desks.specs.State.{lines_at, has_line, next_desk}
use Rattle.revosti.specs.Desk.{desk_bit, line_left_bit, turn_in_c, turned_number}
use Rattle.revosti.specs.Mark.{result_number, mark_in_c}

-- what a call is lent, in bytes
pub record Buffers : Type 0 where
  pub n : ℕ
  pub table : List ℕ
  pub set : List ℕ
  pub sheet : List ℕ

pub data DeskCall : Type 0 where
  handing : (d : ℕ) → Buffers → DeskCall
  turning : Buffers → DeskCall

-- the state that `revosti_hand_in` and `revosti_turn` leave
abbrev pub handed_in : List ℕ → ℕ → Buffers → List ℕ
handed_in state d b = hand_in_left state d b.n (whole32 b.table) (marks_of b.n b.set) (whole16 b.sheet)

abbrev pub state_after : DeskCall → List ℕ → List ℕ
state_after (handing d b) state = handed_in state d b
state_after (turning b) state = (turn_in_c state b.n b.table b.set b.sheet).state

-- how many of the calls are turns
unfoldable pub turns_in : List DeskCall → ℕ
turns_in [] = 0
turns_in (handing d b ∷ calls) = turns_in calls
turns_in (turning b ∷ calls) = suc (turns_in calls)

-- one of the first k turns among the calls serves the desk d
pub data ServedIn (d : ℕ) : (k : ℕ) → List ℕ → List DeskCall → Type 0 where
  at_once : {k : ℕ} {state : List ℕ} {b : Buffers} {calls : List DeskCall} → next_desk state ≡ Some d →
      ServedIn d (suc k) state (turning b ∷ calls)
  later : {k : ℕ} {state : List ℕ} {b : Buffers} {calls : List DeskCall} → ServedIn d k (state_after (turning b) state) calls →
      ServedIn d (suc k) state (turning b ∷ calls)
  meanwhile : {k : ℕ} {state : List ℕ} {e : ℕ} {b : Buffers} {calls : List DeskCall} → ServedIn d k (handed_in state e b) calls →
      ServedIn d k state (handing e b ∷ calls)

-- from `state` to `left` no byte from `first` on changed but the six of the desk d's own numbers
pub record OnlyDesk (d first : ℕ) (state left : List ℕ) : Type 0 where
  pub size : length left ≡ length state
  pub others : (i : ℕ) → first ≤ i → (i + 4 < 6 * d) ⊎ (6 * d + 2 ≤ i) → get_or left i 0 ≡ get_or state i 0

-- what a desk sees: the desks' state, its own marks, and the answer of the last turn that served it, 0 before the first
pub record Seen : Type 0 where
  pub state : List ℕ
  pub set : List ℕ
  pub answer : ℕ

-- what happens from one moment to another, with so many turns of the desk d, while its n, table and sheet stay and
-- nothing but turns alters its marks: any desk hands in anything, d itself only while it has a line left, which is
-- refused; other desks are served, with any buffers; d is served with its own
pub data Meanwhile (d n : ℕ) (table s : List ℕ) (from : Seen) : (turns : ℕ) → Seen → Type 0 where
  nothing : Meanwhile d n table s from 0 from
  hands_in : {k : ℕ} {x : Seen} → Meanwhile d n table s from k x → (e : ℕ) (b : Buffers) → (e ≡ d → has_line x.state d ≡ true) →
      Meanwhile d n table s from k (record { state = handed_in x.state e b; set = x.set; answer = x.answer })
  other_served : {k : ℕ} {x : Seen} → Meanwhile d n table s from k x → (next_desk x.state ≡ Some d → ⊥) → (b : Buffers) →
      Meanwhile d n table s from k (record { state = state_after (turning b) x.state; set = x.set; answer = x.answer })
  served : {k : ℕ} {x : Seen} → Meanwhile d n table s from k x → next_desk x.state ≡ Some d →
      Meanwhile d n table s from (suc k)
      (record {
        state = (turn_in_c x.state n table x.set s).state;
        set = (turn_in_c x.state n table x.set s).marks;
        answer = turned_number (turn_in_c x.state n table x.set s).answer;
      })

-- the desk's sheet has ended as it ends where it is marked alone: its last answer and its marks are those of
-- `revosti_mark_sheet`
pub record EndedAlone (d n : ℕ) (table set s : List ℕ) (x : Seen) : Type 0 where
  pub answered : x.answer ≡ result_number (mark_in_c struck_mark n table set s) + desk_bit * d
  pub marked : x.set ≡ (mark_in_c struck_mark n table set s).marks

-- it has gone as far as a chain of complete lines with which marking it alone begins, and marking goes on from there
pub record PartAlone (d n : ℕ) (table set s : List ℕ) (turns : ℕ) (x : Seen) : Type 0 where
  pub lines : List Struck
  pub place : Place (List ℕ)
  pub chain : CompleteLines (marking_of n (whole32 table)) (whole16 s) (start (marks_of n set)) lines place
  pub goes_on : lines_from (marking_of n (whole32 table)) (whole16 s) place
      ≡ sheet (marking_of n (whole32 table)) (whole16 s) (marks_of n set)
  pub marked : x.set ≡ packed place.marks
  pub counted : lines_at x.state d ≡ turns
  pub all_lines : place.lines ≡ turns
  pub answered : 1 ≤ turns → x.answer ≡ 16777216 * turns + line_left_bit + desk_bit * d

-- at most as many turns as the sheet has records; once no line is left, the answer and the marks of marking alone;
-- before, a part of it
pub record MarkedAlone (d n : ℕ) (table set s : List ℕ) (turns : ℕ) (x : Seen) : Type 0 where
  pub few : turns ≤ records (whole16 s)
  pub ended : has_line x.state d ≡ false → EndedAlone d n table set s x
  pub part : has_line x.state d ≡ true → PartAlone d n table set s turns x
