-- What functions ask of each other about a turn, and what they ensure.
use Rattle.std.specs.Prelude.{ℕ, ◌≤◌, ◌<◌, ◌≡◌, List, length}
use Rattle.marks.specs.Mark.{struck_mark}
use Rattle.marking.specs.asks.Mark.{AdmittedBy, RowsAsked}
use Rattle.desks.specs.State.{desk_count, state_bytes, next_index, owner, lines_at}
use Rattle.desks.specs.Turn.{desk_sheet, turn_packed, desk_left, served_left}
use Rattle.desks.specs.declared.turn.Served.{Served}

-- a sheet that passed the tests, whose desk has a line left
pub record TurnAdmitted (n : ℕ) (table marks sheet : List ℕ) (count index lines : ℕ) : Type 0 where
  pub admitted : AdmittedBy struck_mark n table table marks sheet count
  pub left : lines < index

-- and there is room for the rows of lengths
pub record TurnRows (n : ℕ) (table rows marks sheet : List ℕ) (count index lines : ℕ) : Type 0 where
  pub asked : RowsAsked struck_mark n table table rows rows marks sheet count
  pub left : lines < index

-- a desk that has a line left
pub record ServeAsked (state : List ℕ) (desk : ℕ) : Type 0 where
  pub room : state_bytes ≤ length state
  pub low : 1 ≤ desk
  pub high : desk ≤ desk_count
  pub left : lines_at state desk < next_index state desk

-- what a turn leaves of the desk's numbers
pub record PutBackAs (state : List ℕ) (desk : ℕ) (served : Served) (left : List ℕ) : Type 0 where
  pub kept : length left ≡ length state
  pub written : left ≡ desk_left (desk_sheet served) state desk

-- what serving a desk answers and leaves
pub record ServedAs (state : List ℕ) (desk n : ℕ) (table set s : List ℕ) (answer : Served) (state-out set_out : List ℕ) : Type 0 where
  pub answered : desk_sheet answer ≡ (turn_packed n table set s (next_index state desk) (owner state desk) (lines_at state desk)).served
  pub state_left : state-out ≡ served_left
      (turn_packed n table set s (next_index state desk) (owner state desk) (lines_at state desk)).served state desk
  pub set-left : set_out ≡ (turn_packed n table set s (next_index state desk) (owner state desk) (lines_at state desk)).marks
