-- Arguments (01, "Arguments"), with no sheet in sight: a tree of splits, 3-opt closings and new orders, and
-- when it is closed. A further form of closing is one more constructor of `Closing`.
use Rattle.std.specs.Prelude.{ℕ, suc, ◌≤◌, max, List, [], ◌∷◌}
use Rattle.lengths.specs.Edge.{Edge, edge, Point}
use Rattle.sets.specs.EdgeSet.{with_pair}
use Rattle.argument.specs.Rules.{Rules, NamesFeasible}

-- A split is a branching on the two edges that a tour has at a point, and a case is one of its branches.
-- a chain of cases, each a pair with its closing; "a case record carries one of two closings, a split or a crossing",
-- which is `three_opt`; or a new order of a segment, its inner points from u to v (02, Paper 10)
mutual
  pub data Cases : Type 0 where
    none : Cases
    pair : (x y : ℕ) → Closing → Cases → Cases

  pub data Closing : Type 0 where
    split : (c : ℕ) → Cases → Closing
    three_opt : (p q r s : ℕ) → Closing
    reorder : (u v : ℕ) (vs : List ℕ) → Closing

-- the pairs that a chain names, in its order
unfoldable pub names : Cases → List Edge
names none = []
names (pair x y t rest) = edge x y ∷ names rest

-- how many splits lie one inside another: in a closing, "the first counted", and in a chain
unfoldable mutual
  pub depth : Closing → ℕ
  depth (split c cs) = suc (depths cs)
  depth (three_opt p q r s) = 0
  depth (reorder u v vs) = 0

  pub depths : Cases → ℕ
  depths none = 0
  depths (pair x y t rest) = max (depth t) (depths rest)

-- "At most six splits lie one inside another"
abbrev pub most_splits : ℕ
most_splits = 6

-- A closing is complete under K (01: "closed"): a split at a point if its chain "names exactly the standing pairs, in
-- rising order", and every case is complete under K with its pair: "a case adds its pair's two edges to K"; a 3-opt
-- closing or a new order if it closes K. No walk, list of pairs or test that computes takes part.
unfoldable mutual
  pub Complete : Rules → List Edge → Closing → Type 0
  Complete R K (split c cs) = Point R.n c × NamesFeasible R K c (names cs) × AllComplete R K c cs
  Complete R K (three_opt p q r s) = R.Closes K p q r s
  Complete R K (reorder u v vs) = R.Reorders K u v vs

  pub AllComplete : Rules → List Edge → ℕ → Cases → Type 0
  AllComplete R K c none = Unit {0}
  AllComplete R K c (pair x y t rest) = Complete R (with_pair K c x y) t × AllComplete R K c rest

-- "An argument for edge ab begins with K = {ab} and a split"; "at most six splits lie one inside another,
-- the first counted"
pub record CompleteArgument (R : Rules) (a b c : ℕ) (cs : Cases) : Type 0 where
  pub complete : Complete R (edge a b ∷ []) (split c cs)
  pub shallow : depth (split c cs) ≤ most_splits
