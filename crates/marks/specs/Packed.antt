-- Packed marks (02, Paper 4): "Store a mark in two bits, four edges a byte, the first edge in the lowest
-- bits, unused bits 0".
use Rattle.std.specs.Prelude.{ℕ, ◌+◌, ◌*◌, ◌/◌, ◌%◌, ◌^◌, ◌≡◌, Bool, true, cond, ◌&&◌, List, [], ◌∷◌, eqb, length, take, drop}
use Rattle.lengths.specs.Edge.{edge_count}
use Rattle.lists.specs.Test.{all_at_most}
use Rattle.marks.specs.Mark.{are_marks}

-- the mark in quarter j of a byte, from 0: the lowest two bits first
unfoldable pub quarter : (byte j : ℕ) → ℕ
quarter byte j = byte / 2 ^ (2 * j) % 4

-- the marks in bytes, four each
unfoldable pub quarters : List ℕ → List ℕ
quarters [] = []
quarters (byte ∷ set) = quarter byte 0 ∷ quarter byte 1 ∷ quarter byte 2 ∷ quarter byte 3 ∷ quarters set

-- how many bytes so many marks take
unfoldable pub packed_bytes : ℕ → ℕ
packed_bytes count = (count + 3) / 4

-- how many bytes a packed set of n points has: 4,028 for 180 points
abbrev pub packed_size : ℕ → ℕ
packed_size n = packed_bytes (edge_count n)

-- the byte of four marks
unfoldable pub byte_of : ℕ → ℕ → ℕ → ℕ → ℕ
byte_of a b c d = a + 4 * b + 16 * c + 64 * d

-- the packed set of marks
unfoldable pub packed : List ℕ → List ℕ
packed [] = []
packed (a ∷ []) = byte_of a 0 0 0 ∷ []
packed (a ∷ b ∷ []) = byte_of a b 0 0 ∷ []
packed (a ∷ b ∷ c ∷ []) = byte_of a b c 0 ∷ []
packed (a ∷ b ∷ c ∷ d ∷ marks) = byte_of a b c d ∷ packed marks

-- marks of n points, one number an edge: the set that was one byte an edge
pub record ByteSet (n : ℕ) (marks : List ℕ) : Type 0 where
  pub size : length marks ≡ edge_count n
  pub are : are_marks marks ≡ true

-- 6 of a packed set is "wrong size, a mark of 3, or an unused bit set"; and each of its numbers is a byte
unfoldable pub well_packed : ℕ → List ℕ → Bool
well_packed n set =
    eqb (length set) (packed_size n)
    && (all_at_most 255 set && (are_marks (quarters set) && all_at_most 0 (drop (edge_count n) (quarters set))))

-- the marks that a packed set of n points holds, one number an edge; a set that is not well packed holds none,
-- which is a wrong size
unfoldable pub marks_of : ℕ → List ℕ → List ℕ
marks_of n set = cond (well_packed n set) (take (edge_count n) (quarters set)) []

-- the packed set that held other marks and holds these now; one that is not well packed stays as it is
unfoldable pub repacked : ℕ → List ℕ → List ℕ → List ℕ
repacked n set marks = cond (well_packed n set) (packed marks) set
