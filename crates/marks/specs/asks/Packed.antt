-- What functions ask of each other about the subject of `specs/Packed.antt`, and what they ensure.
use Rattle.std.specs.Prelude.{ℕ, ◌≤◌, ◌<◌, ◌≡◌, Bool, true, false, List, [], ◌∷◌, length, drop}
use Rattle.lengths.specs.Edge.{edge_count}
use Rattle.lists.specs.Test.{all_at_most, AtMost}
use Rattle.marks.specs.Packed.{quarter, quarters, packed_size}

-- a byte of which so many marks are above a limit
pub record Above (most byte r : ℕ) : Type 0 where
  pub small : byte ≤ 255
  pub none : r ≡ 0 → all_at_most most (quarters (byte ∷ [])) ≡ true
  pub some : 0 < r → all_at_most most (quarters (byte ∷ [])) ≡ false

-- whether no mark of a set is above a limit; what stands in memory are bytes
pub record SetWithin (most : ℕ) (set : List ℕ) (r : Bool) : Type 0 where
  pub tested : r ≡ all_at_most most (quarters set)
  pub bytes : AtMost 255 set

-- the unused bits of a set of n points are 0
unfoldable pub unused_clear : ℕ → List ℕ → Bool
unused_clear n set = all_at_most 0 (drop (edge_count n) (quarters set))

-- n points have an edge, and the set has their size
pub record LastAsked (n : ℕ) (set : List ℕ) : Type 0 where
  pub some : 0 < edge_count n
  pub size : length set ≡ packed_size n
  pub bytes : AtMost 255 set

-- four marks of two bits
pub record FourMarks (a b c d : ℕ) : Type 0 where
  pub first : a ≤ 3
  pub second : b ≤ 3
  pub third : c ≤ 3
  pub fourth : d ≤ 3

-- a quarter of a byte, and what two bits hold
pub record PutAsked (j mark : ℕ) : Type 0 where
  pub place : j < 4
  pub two_bits : mark ≤ 3

-- r is the byte with this mark in quarter j
pub record Put (byte j mark r : ℕ) : Type 0 where
  pub small : r ≤ 255
  pub here : quarter r j ≡ mark
  pub others : (k : ℕ) → k < 4 → (k ≡ j → ⊥) → quarter r k ≡ quarter byte k
