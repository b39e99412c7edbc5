-- Segments (02, Paper 10): "The stretch is the path from u to v in K with the pair added; it has at least one inner
-- point, and where K with the pair is a closed tour there is no stretch"; and when a new order of one closes a case.
use Rattle.std.specs.Prelude.{ℕ, ◌≤◌, ◌<◌, ◌≡◌, List, [], ◌∷◌, ◌++◌}
use Rattle.lists.specs.Count.{count}
use Rattle.lengths.specs.Edge.{Edge}
use Rattle.sets.specs.EdgeSet.{Has, path_edges}
use Rattle.tours.specs.Tour.{total}

-- a path of edges of K from u over the points ws to v, no point twice
pub record Path (K : List Edge) (u v : ℕ) (ws : List ℕ) : Type 0 where
  pub once : (x : ℕ) → count x (u ∷ ws ++ v ∷ []) ≤ 1
  pub inside : (a b : ℕ) → Has (path_edges u ws v) a b → Has K a b

-- the stretch: the one path from u to v, with an inner point. In a closed tour two points have two paths, and so no
-- segment.
pub record Segment (K : List Edge) (u v : ℕ) (ws : List ℕ) : Type 0 where
  pub path : Path K u v ws
  pub inner : ws ≡ [] → ⊥
  pub only : (xs : List ℕ) → Path K u v xs → xs ≡ ws

-- the new order vs of a segment's inner points closes K: "The chain must name its inner points, each once, and the new
-- order from u to v must be strictly shorter"; the old path counts by `out`, the new one by `put`
pub record Reorders (out put : ℕ → ℕ → ℕ) (K : List Edge) (u v : ℕ) (vs : List ℕ) : Type 0 where
  pub ws : List ℕ
  pub segment : Segment K u v ws
  pub same : (x : ℕ) → count x vs ≡ count x ws
  pub shorter : total put (path_edges u vs v) < total out (path_edges u ws v)
