-- What the functions of `src/sums.rt` ask of their callers, and what they ensure.
use Rattle.std.specs.Prelude.{ℕ, ◌^◌, ◌<◌, ◌≡◌, List}
use Rattle.lengths.specs.asks.Table.{Spans}

-- ab and cd join points, and the table is one of n points
pub record TwoEdges (n : ℕ) (table : List ℕ) (a b c d : ℕ) : Type 0 where
  pub one : Spans n table a b
  pub two : Spans n table c d

-- ab, cd and ef do
pub record ThreeEdges (n : ℕ) (table : List ℕ) (a b c d e f : ℕ) : Type 0 where
  pub one : Spans n table a b
  pub two : Spans n table c d
  pub three : Spans n table e f

-- a sum, and that the difference of two such sums has 64 bits and a sign
pub record SumIs (sum r : ℕ) : Type 0 where
  pub at : r ≡ sum
  pub bits : r < 2 ^ 40
