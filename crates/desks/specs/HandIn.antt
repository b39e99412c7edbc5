-- The operations "open desks" and "hand in" (02, Paper 14): 22; "28, desk outside 1 to 8; 29, handing in while that
-- desk's sheet still has a line; both before all tests of the sheet", which are those of direct marking.
use Rattle.std.specs.Prelude.{ℕ, ◌≡◌, Bool, not, ◌&&◌, List, ◌++◌, leb, drop, replicate, Result, Ok, Err}
use Rattle.lists.specs.Test.{unless}
use Rattle.lengths.specs.declared.refusal.Refusal.{Refusal}
use Rattle.lengths.specs.declared.refusal.Refusal.TheVariants as refusal
use Rattle.marking.specs.Mark.{tested_sheet}
use Rattle.marking.specs.declared.mark.Passed.{Passed}
use Rattle.desks.specs.State.{desk_count, state_bytes, lent, set_desk, has_line}

-- open desks: all numbers 0
unfoldable pub open_answer : List ℕ → Result Unit Refusal
open_answer state = unless (lent state) (Err refusal.Buffer) (Ok tt)

abbrev pub open_by : Result Unit Refusal → List ℕ → List ℕ
open_by (Ok t) state = replicate state_bytes 0 ++ drop state_bytes state
open_by (Err refused_by) state = state

unfoldable pub open_left : List ℕ → List ℕ
open_left state = open_by (open_answer state) state

-- what `open_desks` ensures: its answer, and the bytes that it leaves
pub record OpenedAs (state : List ℕ) (answer : Result Unit Refusal) (left : List ℕ) : Type 0 where
  pub answered : answer ≡ open_answer state
  pub state_left : left ≡ open_left state

-- "28, desk outside 1 to 8"
unfoldable pub is_desk : ℕ → Bool
is_desk d = leb 1 d && leb d desk_count

-- the answer behind the tests of the sheet
abbrev pub done_by : Result Passed Refusal → Result Unit Refusal
done_by (Ok passed) = Ok tt
done_by (Err refused_by) = Err refused_by

unfoldable pub hand_in_answer : List ℕ → (d n : ℕ) → (table marks s : List ℕ) → Result Unit Refusal
hand_in_answer state d n table marks s =
    unless (lent state) (Err refusal.Buffer)
    (unless (is_desk d) (Err refusal.Desk)
    (unless (not (has_line state d)) (Err refusal.DeskBusy)
    (done_by (tested_sheet n table marks s))))

-- record 1 is the first line, no record has its index, and no line is accepted; the last desk served stays
abbrev pub hand_in_by : Result Unit Refusal → List ℕ → ℕ → List ℕ
hand_in_by (Ok t) state d = set_desk state d 1 0 0
hand_in_by (Err refused_by) state d = state

unfoldable pub hand_in_left : List ℕ → (d n : ℕ) → (table marks s : List ℕ) → List ℕ
hand_in_left state d n table marks s = hand_in_by (hand_in_answer state d n table marks s) state d

-- what `hand_in` ensures: its answer, and the bytes that it leaves
pub record HandedInAs (state : List ℕ) (d n : ℕ) (table marks s : List ℕ) (answer : Result Unit Refusal) (left : List ℕ) : Type 0 where
  pub answered : answer ≡ hand_in_answer state d n table marks s
  pub state_left : left ≡ hand_in_left state d n table marks s
