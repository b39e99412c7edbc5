-- What a point has in K beyond the split point c, found in one pass over the edges of K.
use Rattle.std.specs.Prelude.{ℕ, cond, eqb}
use Rattle.sets.specs.declared.neighbours.PathStep.{PathStep}
use Rattle.sets.specs.declared.neighbours.PathStep.TheVariants.{Stop, On, Fork}

-- with one neighbour more
abbrev pub joined : PathStep → ℕ → PathStep
joined Stop u = On u
joined (On w) u = cond (eqb w u) (On w) Fork
joined Fork u = Fork

-- with the neighbour u taken in, where it is not c
abbrev pub further : PathStep → ℕ → ℕ → PathStep
further m u c = cond (eqb u c) m (joined m u)

-- what v has, with the edge pq looked at
abbrev pub passing : ℕ → ℕ → ℕ → ℕ → PathStep → PathStep
passing p q c v m = cond (eqb p v) (further m q c) (cond (eqb q v) (further m p c) m)
