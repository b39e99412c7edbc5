-- The desks' state and the round robin, computed: opened desks, a sheet handed in, desks 1 and 3 with a line left and
-- every kind of last served, and what a next index comes to.
use Prim.Native.Nat.{ℕ}
use mathlib.Core.Path.{◌≡◌, refl}
use mathlib.Core.List.{List, [], ◌∷◌}
use lib.ListN.{replicate, take}
use Rattle.endian.specs.Bytes.{little_endian}
use Rattle.std.specs.Prelude.{Some, None, Err}
use Rattle.lengths.specs.declared.refusal.Refusal.TheVariants as refusal
use Rattle.argument.specs.Verdict.{accepted, refused}
use Rattle.desks.specs.HandIn.{is_desk, hand_in_answer}
use Rattle.desks.specs.State.{number_at, set_number, set_desk, has_line, following, seek, next_desk, next_answer}
use Rattle.desks.specs.Turn.{waits, ended, ahead, served_left}

abbrev opened : List ℕ
opened = replicate 50 0

-- 22 for 49 bytes; opened desks have no line
pub too_few : next_answer (replicate 49 0) ≡ Err refusal.Buffer
unfolding next_answer
too_few = refl

pub none_left_lem : next_desk opened ≡ None
unfolding next_desk seek has_line following number_at
none_left_lem = refl

-- a sheet handed in at desk 3: its next index, the seventh number, is 1
pub handed-in : take 16 (set_desk opened 3 1 0 0) ≡ 0 ∷ 0 ∷ 0 ∷ 0 ∷ 0 ∷ 0 ∷ 0 ∷ 0 ∷ 0 ∷ 0 ∷ 0 ∷ 0 ∷ 0 ∷ 0 ∷ 1 ∷ 0 ∷ []
unfolding set_desk set_number little_endian
handed-in = refl

-- desks 1 and 3 have a line left; the last served is given
abbrev two : ℕ → List ℕ
two last = set_number (set_desk (set_desk opened 1 1 0 0) 3 700 260 259) 0 last

pub first_of_all : next_desk (two 0) ≡ Some 1
unfolding next_desk seek has_line following number_at set_desk set_number little_endian
first_of_all = refl

pub after_one : next_desk (two 1) ≡ Some 3
unfolding next_desk seek has_line following number_at set_desk set_number little_endian
after_one = refl

pub round_again : next_desk (two 3) ≡ Some 1
unfolding next_desk seek has_line following number_at set_desk set_number little_endian
round_again = refl

-- a last served that nobody wrote counts modulo 8: 65,530 as 2
pub damaged : next_desk (two 65530) ≡ Some 3
unfolding next_desk seek has_line following number_at set_desk set_number little_endian
damaged = refl

-- a desk whose sheet has ended, in a turn that it took
pub ended_one : next_desk (served_left (ended 2 (accepted tt)) (two 0) 1) ≡ Some 3
unfolding next_desk seek has_line following number_at served_left set_desk set_number little_endian
ended_one = refl

-- 28 for desks 0 and 9, 29 at desk 3, whatever the sheet is
pub desk_0 : hand_in_answer (two 0) 0 4 [] [] [] ≡ Err refusal.Desk
unfolding hand_in_answer is_desk set_desk set_number little_endian
desk_0 = refl

pub desk_9 : hand_in_answer (two 0) 9 4 [] [] [] ≡ Err refusal.Desk
unfolding hand_in_answer is_desk set_desk set_number little_endian
desk_9 = refl

pub desk_busy : hand_in_answer (two 0) 3 4 [] [] [] ≡ Err refusal.DeskBusy
unfolding hand_in_answer is_desk has_line number_at set_desk set_number little_endian
desk_busy = refl

-- a next index of line 3, in a sheet of 7 records of which 5 are entered: 0, above the count, not above the highest
-- entered, and a line that waits
pub index_ends : ahead 7 0 3 5 2 ≡ ended 2 (accepted tt)
unfolding ahead
index_ends = refl

pub index_above : ahead 7 8 3 5 2 ≡ ended 2 (refused 8 3)
unfolding ahead
index_above = refl

pub index_not_above : ahead 7 5 3 5 2 ≡ ended 2 (refused 9 3)
unfolding ahead
index_not_above = refl

pub index_waits : ahead 7 6 3 5 2 ≡ waits 6 3 2
unfolding ahead
index_waits = refl
