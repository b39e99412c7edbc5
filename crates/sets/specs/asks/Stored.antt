-- The edges that an EdgeSet stores, last in first, and what its functions keep: arrays of its size, a count that fits,
-- points of 1 to n. These are the readings that the contracts of src/edge_set.rt cite.
use Rattle.std.specs.Prelude.{ℕ, zero, suc, ◌+◌, ◌≤◌, ◌<◌, ◌≡◌, List, [], ◌∷◌, length, get_or}
use Rattle.lengths.specs.Edge.{Edge, edge, Point}
pub use Rattle.sets.specs.EdgeSet.{most_known}
use Rattle.sets.specs.EdgeSet.{with_pair}
use Rattle.sets.specs.declared.edge_set.EdgeSet.{EdgeSet}

-- the places of the arrays that hold them
abbrev pub known_places : ℕ
known_places = 16

-- the first m stored edges as a list, the last one in first
unfoldable pub edges_of : List ℕ → List ℕ → ℕ → List Edge
edges_of f t zero = []
edges_of f t (suc m) = edge (get_or f m 0) (get_or t m 0) ∷ edges_of f t m

-- the edges of the set k
unfoldable pub edge_list : EdgeSet → List Edge
edge_list k = edges_of k.from k.to k.count

-- the arrays have their places, and the edges fit in
pub record Stored (k : EdgeSet) : Type 0 where
  pub from_size : length k.from ≡ known_places
  pub to_size : length k.to ≡ known_places
  pub few : k.count ≤ most_known

-- every stored point is one of 1 to n
pub record Pointed (n : ℕ) (k : EdgeSet) : Type 0 where
  pub from_point : (i : ℕ) → i < k.count → Point n (get_or k.from i 0)
  pub to_point : (i : ℕ) → i < k.count → Point n (get_or k.to i 0)

-- k is stored well, and its points are among 1 to n
pub record Held (n : ℕ) (k : EdgeSet) : Type 0 where
  pub stored : Stored k
  pub points : Pointed n k

-- k is the set of the edge ab
pub record Single (a b : ℕ) (k : EdgeSet) : Type 0 where
  pub edges : edge_list k ≡ edge a b ∷ []
  pub one : k.count ≡ 1
  pub stored : Stored k
  pub held : (n : ℕ) → Point n a → Point n b → Held n k

-- k is the set j with cx and cy added
pub record Added (j : EdgeSet) (c x y : ℕ) (k : EdgeSet) : Type 0 where
  pub edges : edge_list k ≡ with_pair (edge_list j) c x y
  pub two : k.count ≡ j.count + 2
  pub stored : Stored k
  pub held : (n : ℕ) → Held n j → Point n c → Point n x → Point n y → Held n k
