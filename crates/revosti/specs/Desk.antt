-- Eight desks for C (02, Paper 14): the answer as one 64-bit number, and the state and the packed set that are left.
use Rattle.std.specs.Prelude.{ℕ, ◌+◌, ◌*◌, ◌≡◌, List, Option, Some, None, Result, Ok, Err}
use Rattle.endian.specs.Bytes.{whole16, whole32}
use Rattle.marks.specs.Packed.{marks_of}
use Rattle.lengths.specs.Refusal.{refusal_number}
use Rattle.lengths.specs.declared.refusal.Refusal.{Refusal}
use Rattle.desks.specs.HandIn.{open_answer, open_left, hand_in_answer, hand_in_left}
use Rattle.desks.specs.State.{next_answer}
use Rattle.desks.specs.Turn.{DeskSheet, waits, ended, DeskServed, Turn, turn}
use Rattle.revosti.specs.Mark.{verdict_number}

-- the refusal number, or 0
abbrev pub handed_number : Result Unit Refusal → ℕ
handed_number (Ok done) = 0
handed_number (Err r) = refusal_number r

-- 65,536 times the desk that the next turn serves, 0 where no desk has a line left; or the refusal number alone
abbrev pub desk_number : Option ℕ → ℕ
desk_number (Some d) = 65536 * d
desk_number None = 0

abbrev pub next_number : Result (Option ℕ) Refusal → ℕ
next_number (Ok d) = desk_number d
next_number (Err r) = refusal_number r

-- bit 48, from which on a turn's answer has the desk, and bit 56, set where it has a line left
abbrev pub desk_bit : ℕ
desk_bit = 281474976710656

abbrev pub line_left_bit : ℕ
line_left_bit = 256 * desk_bit

-- the answer of marking so far: while a line is left, refusal and record are 0
abbrev pub served_number : DeskSheet → ℕ
served_number (waits index owner lines) = 16777216 * lines + line_left_bit
served_number (ended lines v) = verdict_number v + 16777216 * lines

-- "A turn returns the desk, whether it has a line left, and its verdict so far; with nothing left, only zeros"
abbrev pub turned_number : Result (Option DeskServed) Refusal → ℕ
turned_number (Err r) = refusal_number r
turned_number (Ok None) = 0
turned_number (Ok (Some t)) = served_number t.sheet + desk_bit * t.desk

-- what `revosti_open_desks` ensures
pub record OpenedInC (state : List ℕ) (r : ℕ) (left : List ℕ) : Type 0 where
  pub answered : r ≡ handed_number (open_answer state)
  pub state_left : left ≡ open_left state

-- what `revosti_hand_in` ensures, of the numbers that the bytes are and the marks that the packed set holds
pub record HandedInC (state : List ℕ) (d n : ℕ) (table set s : List ℕ) (r : ℕ) (left : List ℕ) : Type 0 where
  pub answered : r ≡ handed_number (hand_in_answer state d n (whole32 table) (marks_of n set) (whole16 s))
  pub state_left : left ≡ hand_in_left state d n (whole32 table) (marks_of n set) (whole16 s)

-- what `revosti_next_desk` ensures
pub record NextInC (state : List ℕ) (r : ℕ) : Type 0 where
  pub answered : r ≡ next_number (next_answer state)

-- what a turn answers and leaves over bytes
abbrev pub turn_in_c : List ℕ → ℕ → (table set s : List ℕ) → Turn
turn_in_c state n table set s = turn state n (whole32 table) set (whole16 s)

-- what `revosti_turn` ensures
pub record TurnedInC (state : List ℕ) (n : ℕ) (table set s : List ℕ) (r : ℕ) (state-out set_out : List ℕ) : Type 0 where
  pub answered : r ≡ turned_number (turn_in_c state n table set s).answer
  pub state_left : state-out ≡ (turn_in_c state n table set s).state
  pub set-left : set_out ≡ (turn_in_c state n table set s).marks
