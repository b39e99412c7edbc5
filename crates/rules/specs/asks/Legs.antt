-- The length of each leg at a split point. A leg that conditions 1 and 4 rule out is `far`: more than
-- any pair may cost.
use Rattle.std.specs.Prelude.{ℕ, ◌+◌, ◌*◌, ◌%◌, ◌≤◌, ◌<◌, max, ◌≡◌, Bool, cond, List, [], leb, length, get_or, set}
use Rattle.lengths.specs.Edge.{Edge, Point, edge_count}
use Rattle.lengths.specs.asks.Edge.{Placed}
use Rattle.lengths.specs.Instance.{most_length, most_points, point_places}
use Rattle.rules.specs.PairTest.{leg?}
use Rattle.marks.specs.Mark.{opens, open_up_to}
use Rattle.marks.specs.Packed.{quarter}

-- more than any pair may cost
abbrev pub far : ℕ
far = 5 * most_length

-- the length from c to x where cx meets conditions 1 and 4, else far
unfoldable pub leg_of : (out put : ℕ → ℕ → ℕ) → (ℕ → ℕ → Bool) → List Edge → ℕ → ℕ → ℕ
leg_of out put open? K c x = cond (leg? out put open? K c x) (out c x) far

-- the leg m of x with the edge pq taken in: far where the two are not compatible
unfoldable pub narrowed : (out put : ℕ → ℕ → ℕ) → ℕ → ℕ → ℕ → ℕ → ℕ → ℕ
narrowed out put c p q x m = cond (leb (m + out p q) (max (put c p + put x q) (put c q + put x p))) m far

-- the same by numbers: a leg m that is `both` with the edge, and the two exchanges
abbrev pub narrowed_by : ℕ → ℕ → ℕ → ℕ → ℕ
narrowed_by m both one other = cond (leb both (max one other)) m far

-- the legs are those of 1 to n
abbrev pub LegsOf : ℕ → (out put : ℕ → ℕ → ℕ) → (ℕ → ℕ → Bool) → List Edge → ℕ → List ℕ → Type 0
LegsOf n out put open? K c legs = (x : ℕ) → Point n x → get_or legs x 0 ≡ leg_of out put open? K c x

-- the legs are the lengths to the points of 1 to n that pass a test, and far for the others
abbrev pub LegsBy : ℕ → (ℕ → ℕ → ℕ) → ℕ → (test : ℕ → Bool) → List ℕ → Type 0
LegsBy n l c test legs = (x : ℕ) → Point n x → get_or legs x 0 ≡ cond (test x) (l c x) far

-- an array of legs: a place for each point and for 0, none above far
pub record LegList (legs : List ℕ) : Type 0 where
  pub size : length legs ≡ point_places
  pub at_most_far : (x : ℕ) → get_or legs x 0 ≤ far

-- a row of lengths stands in `rows` from `at` on, none above the limit
pub record RowLent (n : ℕ) (rows : List ℕ) (at : ℕ) : Type 0 where
  pub room : at + n < length rows
  pub small : (x : ℕ) → Point n x → get_or rows (at + x) 0 ≤ most_length

-- the rows of all points do, n + 1 numbers for each
pub record RowsLent (n : ℕ) (rows : List ℕ) : Type 0 where
  pub row : (v : ℕ) → Point n v → RowLent n rows ((n + 1) * v)

-- the lengths to the points by the row that stands at `at`
unfoldable pub row_of : List ℕ → ℕ → ℕ → ℕ → ℕ
row_of rows at c x = get_or rows (at + x) 0

-- what the legs are asked about where K is empty: the marks, and c with its row
pub record OpenAsked (n : ℕ) (marks rows : List ℕ) (c at : ℕ) : Type 0 where
  pub few : n ≤ most_points
  pub marked : length marks ≡ edge_count n
  pub centre : Point n c
  pub row : RowLent n rows at

-- the legs of the points below x are those where K is empty and marks up to `most` count as open, the others are far
pub record OpenBelow (most n : ℕ) (marks rows : List ℕ) (c at : ℕ) (legs : List ℕ) (x : ℕ) : Type 0 where
  pub list : LegList legs
  pub done : (i : ℕ) → 1 ≤ i → i < x → get_or legs i 0 ≡ leg_of (row_of rows at) (row_of rows at) (open_up_to most n marks) [] c i
  pub rest : (i : ℕ) → x ≤ i → i ≤ most_points → get_or legs i 0 ≡ far

-- what filling in the legs from x on is asked about
pub record OpenFrom (most n : ℕ) (marks rows : List ℕ) (c at : ℕ) (legs : List ℕ) (x : ℕ) : Type 0 where
  pub asked : OpenAsked n marks rows c at
  pub below : OpenBelow most n marks rows c at legs x

-- and those of the i points above c are too, whose edges to c stand from place `first` on
pub record OpenAbove (most n : ℕ) (marks rows : List ℕ) (c at : ℕ) (legs : List ℕ) (first i : ℕ) : Type 0 where
  pub asked : OpenAsked n marks rows c at
  pub below : OpenBelow most n marks rows c at legs (c + 1 + i)
  pub placed : Placed n c (c + 1) first
  pub some : c < n
  pub high : c + i ≤ n

-- what filling them in one after the other is asked about
pub record SinglyAsked (most n : ℕ) (marks rows : List ℕ) (c at : ℕ) (legs : List ℕ) (first from to : ℕ) : Type 0 where
  pub above : OpenAbove most n marks rows c at legs first from
  pub order : from ≤ to
  pub room : c + to ≤ n

-- places for four legs, and their lengths in a row
pub record FourAsked (rows : List ℕ) (from x : ℕ) : Type 0 where
  pub in_rows : from + 3 < length rows
  pub in_legs : x + 3 < point_places

-- the leg of a point by the mark in quarter j of a byte
abbrev pub quarter_leg : (most byte j length : ℕ) → ℕ
quarter_leg most byte j length = cond (opens most (quarter byte j)) length far

-- four legs written, by a byte of marks
abbrev pub four_legs : (most byte : ℕ) (rows : List ℕ) (from : ℕ) (legs : List ℕ) (x : ℕ) → List ℕ
four_legs most byte rows from legs x =
    set
    (set
    (set (set legs x (quarter_leg most byte 0 (get_or rows from 0))) (x + 1) (quarter_leg most byte 1 (get_or rows (from + 1) 0)))
    (x + 2)
    (quarter_leg most byte 2 (get_or rows (from + 2) 0)))
    (x + 3)
    (quarter_leg most byte 3 (get_or rows (from + 3) 0))

-- what filling them in byte by byte is asked about: a byte begins with the first of them
pub record BytesAsked (most n : ℕ) (marks rows : List ℕ) (c at : ℕ) (legs : List ℕ) (first from bytes : ℕ) : Type 0 where
  pub above : OpenAbove most n marks rows c at legs first from
  pub begins : 0 < bytes → (first + from) % 4 ≡ 0
  pub room : c + (from + 4 * bytes) ≤ n

-- r places on a byte begins, or there are no more
pub record ToByte (first left r : ℕ) : Type 0 where
  pub few : r ≤ left
  pub begins : r < left → (first + r) % 4 ≡ 0

-- what `open_legs` answers: the legs where K is empty
pub record OpenLegs (most n : ℕ) (marks rows : List ℕ) (c at : ℕ) (legs : List ℕ) : Type 0 where
  pub list : LegList legs
  pub each : LegsOf n (row_of rows at) (row_of rows at) (open_up_to most n marks) [] c legs

-- three numbers that are a length or the sum of two
pub record Sums (pq cp cq : ℕ) : Type 0 where
  pub first : pq ≤ 2 * most_length
  pub second : cp ≤ 2 * most_length
  pub third : cq ≤ 2 * most_length

-- what taking pq into all legs is asked about: the rows of p and q, which begin at ps and qs, and the
-- lengths pq, cp and cq
pub record NarrowAsked (n : ℕ) (rows legs : List ℕ) (ps qs pq cp cq : ℕ) : Type 0 where
  pub few : n ≤ most_points
  pub list : LegList legs
  pub row_p : RowLent n rows ps
  pub row_q : RowLent n rows qs
  pub sums : Sums pq cp cq

-- what `narrow` leaves: the legs with pq taken in
pub record Narrowed (n : ℕ) (rows legs : List ℕ) (ps qs pq cp cq : ℕ) (r : List ℕ) : Type 0 where
  pub list : LegList r
  pub each : (x : ℕ) → Point n x
      → get_or r x 0 ≡ narrowed_by (get_or legs x 0) (get_or legs x 0 + pq) (cp + get_or rows (qs + x) 0) (cq + get_or rows (ps + x) 0)
