-- The records of a sheet (01, "The sheet"): `record_at` says by one equation what a record is. A further form of closing
-- is one more constructor of `CaseClosing`, with its kind in `content` and its points in `closing_fits`.
use Rattle.std.specs.Prelude.{ℕ, ◌+◌, ◌-◌, ◌*◌, ◌/◌, ◌≤◌, Bool, true, false, not, ◌&&◌, List, eqb, length, get_or}
use Rattle.lengths.specs.Instance.{is_point}

-- A sheet is a certificate of edge eliminations. "A sheet has .. records numbered from 1, each of eight 16-bit numbers"
abbrev pub record_size : ℕ
record_size = 8

unfoldable pub records : List ℕ → ℕ
records s = length s / record_size

-- i is the number of a record
pub record Readable (s : List ℕ) (i : ℕ) : Type 0 where
  pub low : 1 ≤ i
  pub high : i ≤ records s

-- number f of the record i: "kind, a, b, u, v, c, d, next", the kind being number 0
unfoldable pub field : List ℕ → ℕ → ℕ → ℕ
field s i f = get_or s ((i - 1) * record_size + f) 0

-- how a case is closed: by a split at c whose first case is the record `first`, by 3-opt with the edge
-- pq and the centres r and s, or by a new order of the segment from u to v whose first point the record `first`
-- names (02, Paper 10)
pub data CaseClosing : Type 0 where
  splits : (c first : ℕ) → CaseClosing
  three_opts : (p q r s : ℕ) → CaseClosing
  reorders : (u v first : ℕ) → CaseClosing

-- what a record is: a line (the elimination of one edge), a case (one branch of a split), a point of a new order, or
-- none of these
pub data Record : Type 0 where
  line : (a b c first next : ℕ) → Record
  case : (a b : ℕ) → CaseClosing → (next : ℕ) → Record
  visit : (v next : ℕ) → Record
  other : Record

-- "u and v are 0" in kinds 1 and 2; a record that breaks this is no record of its kind
unfoldable pub bare : (u v : ℕ) → Record → Record
bare u v r = elim (eqb u 0 && eqb v 0) [ true ↦ r | false ↦ other ]

-- "Kind 1, a line: .. Kind 2, a case with a split: .. Kind 3, a case with a crossing: .."; 02, Paper 10: "Kind 4 is a
-- case with pair a, b, stretch ends u and v, c 0, and d the first of a chain of kind 5 records. Each kind 5 record
-- names one point in a; its other fields but next are 0"
unfoldable pub content : (kind a b u v c d next : ℕ) → Record
content kind a b u v c d next =
    elim (eqb kind 1) [
      | true ↦ bare u v (line a b c d next)
      | false ↦ elim (eqb kind 2) [
        | true ↦ bare u v (case a b (splits c d) next)
        | false ↦ elim (eqb kind 3) [
          | true ↦ case a b (three_opts u v c d) next
          | false ↦ elim (eqb kind 4) [
            | true ↦ bare c 0 (case a b (reorders u v d) next)
            | false ↦ elim (eqb kind 5) [
              | true ↦ bare b u (bare v c (bare d 0 (visit a next)))
              | false ↦ other
            ]
          ]
        ]
      ]
    ]

unfoldable pub record_at : List ℕ → ℕ → Record
record_at s i = content (field s i 0) (field s i 1) (field s i 2) (field s i 3) (field s i 4) (field s i 5) (field s i 6) (field s i 7)

-- the point fields of a closing are points
unfoldable pub closing_fits : ℕ → CaseClosing → Bool
closing_fits n (splits c first) = is_point n c
closing_fits n (three_opts p q r s) = is_point n p && (is_point n q && (is_point n r && is_point n s))
closing_fits n (reorders u v first) = is_point n u && is_point n v

-- refusal 11 does not apply: no "point field outside 1 to n, or a = b". A line is read as a case with a split.
unfoldable pub fits : (n a b : ℕ) → CaseClosing → Bool
fits n a b how = is_point n a && (is_point n b && (not (eqb a b) && closing_fits n how))
