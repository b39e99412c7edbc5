-- What functions ask of each other about the subject of `specs/ClosingTest.antt`, and what they ensure.
use Rattle.std.specs.Prelude.{ℕ, List}
use Rattle.lengths.specs.asks.Table.{Spans}
use Rattle.sets.specs.asks.Stored.{Held}
use Rattle.sets.specs.declared.edge_set.EdgeSet.{EdgeSet}

-- the edge, the centres and their ends are points, and the table is one of n points
pub record Labelled (n : ℕ) (table : List ℕ) (p q r s x y z w : ℕ) : Type 0 where
  pub edge : Spans n table p q
  pub centres : Spans n table r s
  pub ends_r : Spans n table x y
  pub ends_s : Spans n table z w

-- the same of one move of a labelling
pub record MoveAsked (n : ℕ) (table : List ℕ) (p q r s x w : ℕ) : Type 0 where
  pub edge : Spans n table p q
  pub centres : Spans n table r s
  pub ends : Spans n table x w

-- the edge and the centres are points, and so are those of k; the table is one of n points
pub record ThreeOptAsked (n : ℕ) (table : List ℕ) (k : EdgeSet) (p q r s : ℕ) : Type 0 where
  pub edge : Spans n table p q
  pub centres : Spans n table r s
  pub held : Held n k
