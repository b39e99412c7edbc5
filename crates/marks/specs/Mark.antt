-- Marks (01, "Points, lengths, marks"): one byte an edge, 0 struck, 1 open and 2 pending.
use Rattle.std.specs.Prelude.{ℕ, Bool, not, ◌&&◌, List, eqb, leb, get_or, set}
use Rattle.lengths.specs.Edge.{place}
use Rattle.lists.specs.Count.{count}
use Rattle.lists.specs.Test.{all_at_most}

-- "0 struck, 1 open, 2 pending": a struck edge is eliminated
abbrev pub struck_mark : ℕ
struck_mark = 0

abbrev pub open_mark : ℕ
open_mark = 1

abbrev pub pending_mark : ℕ
pending_mark = 2

-- the mark at a place, and the marks with another one there: everything above reads and writes marks by these two
unfoldable pub mark_at : List ℕ → ℕ → ℕ
mark_at marks i = get_or marks i 0

unfoldable pub set_mark : List ℕ → ℕ → ℕ → List ℕ
set_mark marks i mark = set marks i mark

-- each byte is a mark
abbrev pub are_marks : List ℕ → Bool
are_marks marks = all_at_most pending_mark marks

-- nothing is pending: behind test 6, no mark is above 1
abbrev pub none_pending : List ℕ → Bool
none_pending marks = all_at_most open_mark marks

-- a mark of an open edge, where marks up to `up_to` count as open
abbrev pub opens : (up_to mark : ℕ) → Bool
opens up_to mark = not (eqb mark struck_mark) && leb mark up_to

-- the edge at this place is open
abbrev pub open_at : (up_to : ℕ) → List ℕ → ℕ → Bool
open_at up_to marks i = opens up_to (mark_at marks i)

-- how many edges are open
abbrev pub open_count : List ℕ → ℕ
open_count marks = count open_mark marks

-- the edge ab is open
unfoldable pub open_up_to : (up_to : ℕ) → ℕ → List ℕ → ℕ → ℕ → Bool
open_up_to up_to n marks a b = open_at up_to marks (place n a b)

-- ab is open as a sheet reads it: "within the asked sheet a pending edge counts as struck"
abbrev pub open_in : ℕ → List ℕ → ℕ → ℕ → Bool
open_in = open_up_to open_mark

-- ab is open as the pair list and the tour check read it: they count a pending edge as open
abbrev pub unstruck_in : ℕ → List ℕ → ℕ → ℕ → Bool
unstruck_in = open_up_to pending_mark

-- the marks with this mark at the edge ab
unfoldable pub mark_in : (mark : ℕ) → ℕ → List ℕ → ℕ → ℕ → List ℕ
mark_in mark n marks a b = set_mark marks (place n a b) mark

-- the marks with the edge ab struck
abbrev pub strike_in : ℕ → List ℕ → ℕ → ℕ → List ℕ
strike_in = mark_in struck_mark
