-- The feasible pairs at a split point, rising by x and then by y.
use Rattle.std.specs.Prelude.{ℕ, Bool, true, false, List, [], ◌∷◌}
use Rattle.lengths.specs.Edge.{Edge, edge, edges}
use Rattle.rules.specs.PairTest.{feasible?}

-- the edges that pass the test, in their order
unfoldable pub keep : (ℕ → ℕ → Bool) → List Edge → List Edge
keep test [] = []
keep test (edge x y ∷ es) = elim (test x y) [ true ↦ edge x y ∷ keep test es | false ↦ keep test es ]

-- the feasible pairs of K at c: pairs x < y rise as 01's edges do
unfoldable pub feasible_pairs : ℕ → (out put : ℕ → ℕ → ℕ) → (ℕ → ℕ → Bool) → List Edge → ℕ → List Edge
feasible_pairs n out put open? K c = keep (feasible? n out put open? K c) (edges n)
