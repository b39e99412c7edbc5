-- The feasible pairs of K = {ab} at c, written to an array: x then y for each.
use Rattle.std.specs.Prelude.{ℕ, List, [], ◌∷◌}
use Rattle.lengths.specs.Edge.{Edge, edge}
use Rattle.lengths.specs.Table.{length_of}
use Rattle.marks.specs.Mark.{unstruck_in}
use Rattle.rules.specs.Pairs.{feasible_pairs}

-- the feasible pairs of {ab} at c; the pair list counts a pending edge as open
unfoldable pub pairs_at : ℕ → (out put marks : List ℕ) → ℕ → ℕ → ℕ → List Edge
pairs_at n out put marks a b c = feasible_pairs n (length_of n out) (length_of n put) (unstruck_in n marks) (edge a b ∷ []) c

-- x then y for each pair
unfoldable pub numbers_of : List Edge → List ℕ
numbers_of [] = []
numbers_of (edge x y ∷ es) = x ∷ y ∷ numbers_of es
