-- Tours (01, "Points, lengths, marks") and the exchanges of at most three edges between them.
use Rattle.std.specs.Prelude.{ℕ, ◌+◌, ◌≤◌, ◌≡◌, List, [], ◌∷◌, length}
use Rattle.lengths.specs.Edge.{Edge, edge, Point}
use Rattle.sets.specs.EdgeSet.{Has, closed_edges}
use Rattle.lists.specs.Count.{count}

-- a tour of n points: each of 1 to n stands in it exactly once, and nothing else does
pub record Tour (n : ℕ) (t : List ℕ) : Type 0 where
  pub once : (v : ℕ) → Point n v → count v t ≡ 1
  pub only : (v : ℕ) → 1 ≤ count v t → Point n v

-- the sum of the edges' lengths
unfoldable pub total : (ℕ → ℕ → ℕ) → List Edge → ℕ
total l [] = 0
total l (edge a b ∷ es) = l a b + total l es

-- the length of a tour: the sum over its edges, last to first included
unfoldable pub tour_length : (ℕ → ℕ → ℕ) → List ℕ → ℕ
tour_length l t = total l (closed_edges t)

-- ab is an edge of the tour
abbrev pub Uses : List ℕ → ℕ → ℕ → Type 0
Uses t a b = Has (closed_edges t) a b

-- a shortest tour: no order of the n points has a smaller sum
pub record Shortest (n : ℕ) (l : ℕ → ℕ → ℕ) (t : List ℕ) : Type 0 where
  pub tour : Tour n t
  pub least : (u : List ℕ) → Tour n u → tour_length l t ≤ tour_length l u

abbrev pub Symmetric : (ℕ → ℕ → ℕ) → Type 0
Symmetric l = (a b : ℕ) → l a b ≡ l b a

-- u is the tour t with the edges `removed` taken out and the edges `added` put in: said of all lengths at once
pub record Exchange (t u : List ℕ) (removed added : List Edge) : Type 0 where
  pub taken : (a b : ℕ) → Has removed a b → Uses t a b
  pub balance : (l : ℕ → ℕ → ℕ) → Symmetric l → tour_length l u + total l removed ≡ tour_length l t + total l added

-- a 3-optimal tour: taking out at most three of its edges and putting in as many makes no shorter tour.
-- "As many" is the balance where all lengths are 1.
pub record ThreeOptimal (n : ℕ) (l : ℕ → ℕ → ℕ) (t : List ℕ) : Type 0 where
  pub tour : Tour n t
  pub optimal : (u : List ℕ) (removed added : List Edge) → Tour n u → Exchange t u removed added → length removed ≤ 3
      → tour_length l t ≤ tour_length l u
