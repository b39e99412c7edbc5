-- 01's K is the known edges: those that a tour is assumed to have.
-- A list of edges read as a set: neither the order of an edge's two points nor a repeated edge matters.
use Rattle.std.specs.Prelude.{ℕ, ◌+◌, ◌*◌, ◌≤◌, ◌≡◌, List, [], ◌∷◌, ◌⊎◌, length}
use Rattle.lists.specs.Count.{count}
use Rattle.lengths.specs.Edge.{Edge, edge}

-- the most edges that K has: the edge to be struck, and two for each of six splits
abbrev pub most_known : ℕ
most_known = 1 + 2 * 6

-- the edge e is ab, in either order
abbrev pub Joins : Edge → ℕ → ℕ → Type 0
Joins (edge p q) a b = ((p ≡ a) × (q ≡ b)) ⊎ ((p ≡ b) × (q ≡ a))

-- ab is one of the edges
abbrev pub Has : List Edge → ℕ → ℕ → Type 0
Has [] a b = ⊥
Has (e ∷ es) a b = Joins e a b ⊎ Has es a b

-- the edges of the path from a over the points vs to z
unfoldable pub path_edges : ℕ → List ℕ → ℕ → List Edge
path_edges a [] z = edge a z ∷ []
path_edges a (b ∷ vs) z = edge a b ∷ path_edges b vs z

-- the edges of a closed list of points: each point with the next, and the last with the first
unfoldable pub closed_edges : List ℕ → List Edge
closed_edges [] = []
closed_edges (a ∷ vs) = path_edges a vs a

-- no point has three edges
abbrev pub AtMostTwo : List Edge → Type 0
AtMostTwo es = (v a b c : ℕ) → Has es v a → Has es v b → Has es v c → (a ≡ b) ⊎ ((a ≡ c) ⊎ (b ≡ c))

-- vs is a cycle of edges of es: at least three points, each once, with every edge of the closed list in es
pub record Cycle (es : List Edge) (vs : List ℕ) : Type 0 where
  pub three : 3 ≤ length vs
  pub once : (v : ℕ) → count v vs ≤ 1
  pub inside : (a b : ℕ) → Has (closed_edges vs) a b → Has es a b

-- no cycle has fewer than n edges; a cycle has as many edges as points
abbrev pub NoShortCycle : ℕ → List Edge → Type 0
NoShortCycle n es = (vs : List ℕ) → Cycle es vs → n ≤ length vs

-- K with cx and cy added
unfoldable pub with_pair : List Edge → ℕ → ℕ → ℕ → List Edge
with_pair K c x y = edge c x ∷ edge c y ∷ K

-- r has degree two in K, and x and y are the other ends of its edges
pub record DegreeTwo (K : List Edge) (r x y : ℕ) : Type 0 where
  pub apart : x ≡ y → ⊥
  pub has_x : Has K r x
  pub has_y : Has K r y
  pub only : (v : ℕ) → Has K r v → (v ≡ x) ⊎ (v ≡ y)
