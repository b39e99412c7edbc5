-- How much a pair at a split point may cost: by condition 5, the least that an edge of K leaves.
use Rattle.std.specs.Prelude.{ℕ, ◌+◌, ◌-◌, ◌*◌, ◌≤◌, min, cond, List, [], ◌∷◌, eqb}
use Rattle.lengths.specs.Edge.{Edge, edge}
use Rattle.lengths.specs.Instance.{most_length}

-- the bound where no edge of K asks for less: two legs that are not far always meet it
abbrev pub loose : ℕ
loose = 3 * most_length

-- the bound b with the edge uv taken in: by condition 5 a pair x, y has out(xc) + out(yc) - put(xy) at most put(uc) +
-- put(vc) - out(uv). The longest length is added on both sides, so that nothing is negative.
unfoldable pub tightened : (out put : ℕ → ℕ → ℕ) → ℕ → ℕ → ℕ → ℕ → ℕ
tightened out put c u v b = cond (eqb u c) b (cond (eqb v c) b (min (put u c + put v c + most_length - out u v) b))

-- the same by the lengths uv, cu and cv
abbrev pub tightened_by : ℕ → ℕ → ℕ → ℕ → ℕ → ℕ → ℕ → ℕ
tightened_by c u v uv cu cv b = cond (eqb u c) b (cond (eqb v c) b (min (cu + cv + most_length - uv) b))

-- the least of these over the edges of K that do not touch c; `loose` where there is none, which every pair meets
unfoldable pub bound_of : (out put : ℕ → ℕ → ℕ) → List Edge → ℕ → ℕ
bound_of out put [] c = loose
bound_of out put (edge u v ∷ es) c = tightened out put c u v (bound_of out put es c)

-- three lengths, none above the limit
pub record Short (pq cp cq : ℕ) : Type 0 where
  pub first : pq ≤ most_length
  pub second : cp ≤ most_length
  pub third : cq ≤ most_length
