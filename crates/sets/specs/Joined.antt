-- Whether an edge is one of a list, as a Bool: the twin of `Has`.
use Rattle.std.specs.Prelude.{ℕ, Bool, false, ◌&&◌, ◌||◌, List, [], ◌∷◌, eqb}
use Rattle.lengths.specs.Edge.{Edge, edge}

-- pq is ab, in either order
abbrev pub joins? : ℕ → ℕ → ℕ → ℕ → Bool
joins? p q a b = eqb p a && eqb q b || eqb p b && eqb q a

-- ab is one of the edges
unfoldable pub has? : List Edge → ℕ → ℕ → Bool
has? [] a b = false
has? (edge p q ∷ es) a b = joins? p q a b || has? es a b
