-- What functions ask of each other about new orders.
use Rattle.std.specs.Prelude.{ℕ, ◌≤◌, ◌≡◌, List, length}
use Rattle.lengths.specs.Edge.{Point, edge_count}
use Rattle.sets.specs.asks.Stored.{most_known}
use Rattle.segments.specs.asks.Order.{AllPoints, Listed}
use Rattle.segments.specs.declared.order.Order.{Order}

-- u, v and the few points between them are points, and the table is one of n points
pub record PathAsked (n : ℕ) (table : List ℕ) (u : ℕ) (points : List ℕ) (v : ℕ) : Type 0 where
  pub first : Point n u
  pub last : Point n v
  pub listed : AllPoints n points
  pub few : length points ≤ most_known
  pub whole : length table ≡ edge_count n

-- what the comparison is asked about: the segment by the table of what is taken out, the order by that of what is put
-- in
pub record ReorderAsked (n : ℕ) (out put : List ℕ) (s : Order) (u v : ℕ) (o : Order) : Type 0 where
  pub first : Point n u
  pub last : Point n v
  pub old : Listed n s
  pub new : Listed n o
  pub out_whole : length out ≡ edge_count n
  pub put_whole : length put ≡ edge_count n
