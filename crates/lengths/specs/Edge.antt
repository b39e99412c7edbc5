-- Points, edges and their order (01, "Points, lengths, marks").
use Rattle.std.specs.Prelude.{ℕ, zero, suc, ◌+◌, ◌-◌, ◌*◌, ◌/◌, ◌≤◌, ◌<◌, ◌≡◌, true, false, ◌⊎◌, List, [], ◌∷◌, ◌++◌, ltb}

-- an edge by its two points
pub data Edge : Type 0 where
  edge : ℕ → ℕ → Edge

-- a is one of the points 1 to n
pub record Point (n a : ℕ) : Type 0 where
  pub low : 1 ≤ a
  pub high : a ≤ n

-- how many edges n points have
unfoldable pub edge_count : ℕ → ℕ
edge_count n = n * (n - 1) / 2

-- the edges from a to the k points b, b + 1, ..
unfoldable pub row : ℕ → ℕ → ℕ → List Edge
row a b zero = []
row a b (suc k) = edge a b ∷ row a (suc b) k

-- the edges among a and the k points above it: the row of a, then the rows above
unfoldable pub rows : ℕ → ℕ → List Edge
rows a zero = []
rows a (suc k) = row a (suc a) (suc k) ++ rows (suc a) k

-- the edges of n points in 01's order: 1-2, 1-3, .., 1-n, 2-3, ..
unfoldable pub edges : ℕ → List Edge
edges n = rows 1 (n - 1)

-- how many edges k points have, counted point by point: a further point brings an edge to each point before it
unfoldable pub tri : ℕ → ℕ
tri zero = 0
tri (suc k) = tri k + k

-- the place, from 0, of the edge ab with a < b: first stand the rows of 1 to a - 1, then a's edges to
-- the points below b
unfoldable pub place_up : ℕ → ℕ → ℕ → ℕ
place_up n a b = tri n - tri (n + 1 - a) + (b - a - 1)

-- the place of the edge ab, in either order of its points
unfoldable pub place : ℕ → ℕ → ℕ → ℕ
place n a b = elim (ltb a b) [ true ↦ place_up n a b | false ↦ place_up n b a ]

-- ab is an edge of an instance of n points
pub record IsEdge (n a b : ℕ) : Type 0 where
  pub first : Point n a
  pub second : Point n b
  pub apart : a ≡ b → ⊥

-- 01's order of two edges ab and cd, each with its lower point first: by the lower point, then by the higher
abbrev pub Before : ℕ → ℕ → ℕ → ℕ → Type 0
Before a b c d = (a < c) ⊎ ((a ≡ c) × (b < d))
