-- The desks' state (02, Paper 14), a round robin over eight: lent bytes, of which the first 50 are 25 numbers of 16
-- bits. The first is the last desk served, 0 at first; then of each desk come the index of its next line, the record
-- that has this index, and the lines accepted. Any bytes are a state.
use Rattle.std.specs.Prelude.{ℕ, zero, suc, ◌+◌, ◌-◌, ◌*◌, ◌%◌, Bool, true, false, List, ◌++◌, leb, ltb, length, get_or, take, drop, Option, Some, None, Result, Ok, Err}
use Rattle.endian.specs.Bytes.{little_endian}
use Rattle.lists.specs.Test.{unless}
use Rattle.lengths.specs.declared.refusal.Refusal.{Refusal}
use Rattle.lengths.specs.declared.refusal.Refusal.TheVariants as refusal

-- "eight candidates"
abbrev pub desk_count : ℕ
desk_count = 8

abbrev pub state_numbers : ℕ
state_numbers = 1 + 3 * desk_count

abbrev pub state_bytes : ℕ
state_bytes = 2 * state_numbers

-- 22: the bytes lent are enough
abbrev pub lent : List ℕ → Bool
lent state = leb state_bytes (length state)

-- the number at a place, from 0 on, and the state with another one there
unfoldable pub number_at : List ℕ → ℕ → ℕ
number_at state i = get_or state (2 * i) 0 + 256 * get_or state (2 * i + 1) 0

unfoldable pub set_number : List ℕ → ℕ → ℕ → List ℕ
set_number state i x = take (2 * i) state ++ (little_endian 2 x ++ drop (2 * (i + 1)) state)

-- the last desk served; and of a desk, numbered from 1, its next index, the record that has this index, and its lines
abbrev pub last_served : List ℕ → ℕ
last_served state = number_at state 0

abbrev pub next_index : List ℕ → ℕ → ℕ
next_index state d = number_at state (3 * d - 2)

abbrev pub owner : List ℕ → ℕ → ℕ
owner state d = number_at state (3 * d - 1)

abbrev pub lines_at : List ℕ → ℕ → ℕ
lines_at state d = number_at state (3 * d)

-- the state with other three numbers of a desk
unfoldable pub set_desk : List ℕ → (d index owner lines : ℕ) → List ℕ
set_desk state d index owner lines = set_number (set_number (set_number state (3 * d - 2) index) (3 * d - 1) owner) (3 * d) lines

-- the desk has a line left: its lines are below its next index, which is 0 where its sheet has ended
unfoldable pub has_line : List ℕ → ℕ → Bool
has_line state d = ltb (lines_at state d) (next_index state d)

-- "counting upward and round again": the desk after the last served, and at first desk 1
unfoldable pub following : ℕ → ℕ
following d = d % desk_count + 1

-- the first of so many desks from d on that has a line left
unfoldable pub seek : List ℕ → (d count : ℕ) → Option ℕ
seek state d zero = None
seek state d (suc count) = elim (has_line state d) [ true ↦ Some d | false ↦ seek state (following d) count ]

-- "the next desk after the last served .. that has a line left"
unfoldable pub next_desk : List ℕ → Option ℕ
next_desk state = seek state (following (last_served state)) desk_count

-- the operation "next desk"
unfoldable pub next_answer : List ℕ → Result (Option ℕ) Refusal
next_answer state = unless (lent state) (Err refusal.Buffer) (Ok (next_desk state))
