-- Conditions 2 and 3 of a feasible pair (01, "Standing pairs"), computed: K with cx and cy added has no point
-- with three edges and no cycle of fewer than n edges, where K itself is such a set.
use Rattle.std.specs.Prelude.{ℕ, zero, suc, ◌-◌, Bool, true, false, ◌&&◌, ◌||◌, not, List, eqb}
use Rattle.lengths.specs.Edge.{Edge}
use Rattle.sets.specs.EdgeSet.{Has, AtMostTwo, NoShortCycle}
use Rattle.sets.specs.Neighbours.{neighbours_of, within?, beyond}
use Rattle.sets.specs.declared.neighbours.PathStep.{PathStep}
use Rattle.sets.specs.declared.neighbours.PathStep.TheVariants.{Stop, On, Fork}

-- K is a set that a tour of n points can hold: conditions 2 and 3, and no edge from a point to itself
pub record Shape (n : ℕ) (K : List Edge) : Type 0 where
  pub two : AtMostTwo K
  pub long : NoShortCycle n K
  pub plain : (v : ℕ) → Has K v v → ⊥

-- what holds of the point that the path goes on to, where it goes on to just one
abbrev pub goes_on : PathStep → (ℕ → Bool) → Bool
goes_on Stop g = false
goes_on (On v) g = g v
goes_on Fork g = false

-- y is one of the next f points of the path that comes from `from` to `at`, `at` the first of them
unfoldable pub reaches? : ℕ → List Edge → ℕ → ℕ → ℕ → Bool
reaches? zero K from at y = false
reaches? (suc f) K from at y = eqb at y || goes_on (beyond (neighbours_of K at) from) (λ v. reaches? f K at v y)

-- with what x and y have in K beyond c: x or y gets a third edge, or the path from c over x meets y in time to
-- close a short cycle
abbrev pub shuts? : ℕ → List Edge → ℕ → ℕ → PathStep → PathStep → Bool
shuts? n K x y Fork my = true
shuts? n K x y Stop Fork = true
shuts? n K x y Stop Stop = false
shuts? n K x y Stop (On u) = false
shuts? n K x y (On v) Fork = true
shuts? n K x y (On v) Stop = false
shuts? n K x y (On v) (On u) = reaches? (n - 3) K x v y

-- conditions 2 and 3 of the pair x, y at c under K
unfoldable pub shape? : ℕ → List Edge → ℕ → ℕ → ℕ → Bool
shape? n K c x y = within? (neighbours_of K c) x y && not (shuts? n K x y (beyond (neighbours_of K x) c) (beyond (neighbours_of K y) c))
