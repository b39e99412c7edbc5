-- What a call of *measure* leaves where it refuses nothing (01, "Points, lengths, marks": the five rules).
use Rattle.std.specs.Prelude.{ℕ, ◌≤◌, ◌≡◌, List, length}
use Rattle.lengths.specs.Distance.{squares, IsEuc2d, IsCeil2d, IsAtt, IsMan2d, IsMax2d}
use Rattle.lengths.specs.Edge.{Point, edge_count}
use Rattle.lengths.specs.Measure.{x_gap, y_gap}
use Rattle.lengths.specs.Table.{length_of}

-- d is the distance by 01's rule of this number, for points whose coordinates differ by dx and dy
pub record IsDistance (rule dx dy d : ℕ) : Type 0 where
  pub euc2d : rule ≡ 1 → IsEuc2d (squares dx dy) d
  pub ceil2d : rule ≡ 2 → IsCeil2d (squares dx dy) d
  pub att : rule ≡ 3 → IsAtt (squares dx dy) d
  pub man2d : rule ≡ 4 → IsMan2d dx dy d
  pub max2d : rule ≡ 5 → IsMax2d dx dy d

-- in the table the length between any two points is their distance by the rule, and no other number is
pub record Measures (n rule : ℕ) (coordinates table : List ℕ) : Type 0 where
  pub known : (1 ≤ rule) × (rule ≤ 5)
  pub size : length table ≡ edge_count n
  pub distance : (a b : ℕ) → Point n a → Point n b → IsDistance rule (x_gap coordinates a b) (y_gap coordinates a b) (length_of n table a b)
  pub only : (a b d : ℕ) → Point n a → Point n b →
      IsDistance rule (x_gap coordinates a b) (y_gap coordinates a b) d → d ≡ length_of n table a b
