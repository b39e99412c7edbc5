-- What functions ask of each other about the subject of `specs/Pairs.antt`, and what they ensure.
use Rattle.std.specs.Prelude.{ℕ, suc, ◌-◌, Bool, List, ◌++◌}
use Rattle.lengths.specs.Edge.{Edge, row, rows}
use Rattle.rules.specs.PairTest.{feasible?}
use Rattle.rules.specs.Pairs.{keep}

-- the pairs after xy: those of x with a higher second point, then the rows above x; after 1-1 all pairs come
unfoldable pub pairs_after : ℕ → ℕ → ℕ → List Edge
pairs_after n x y = row x (suc y) (n - y) ++ rows (suc x) (n - suc x)

-- the feasible pairs after xy
unfoldable pub feasible_after : ℕ → (out put : ℕ → ℕ → ℕ) → (ℕ → ℕ → Bool) → List Edge → ℕ → ℕ → ℕ → List Edge
feasible_after n out put open? K c x y = keep (feasible? n out put open? K c) (pairs_after n x y)
