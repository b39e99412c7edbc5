-- The different neighbours of a point in a list of edges, as far as they matter: none, one, two, or more.
-- A neighbour is compared with those found before, so that an edge that stands twice counts once.
use Rattle.std.specs.Prelude.{ℕ, Bool, true, false, ◌&&◌, ◌||◌, cond, List, [], ◌∷◌, eqb, Option}
use Rattle.lengths.specs.Edge.{Edge, edge}
use Rattle.sets.specs.declared.neighbours.Neighbours.{Neighbours}
use Rattle.sets.specs.declared.neighbours.Neighbours.TheVariants.{None, One, Two, More}
use Rattle.sets.specs.declared.neighbours.PathStep.{PathStep}
use Rattle.sets.specs.declared.neighbours.PathStep.TheVariants.{Stop, On, Fork}
use Rattle.std.specs.Prelude.{Some, None as Other}

-- the neighbours with u taken in
abbrev pub with_point : Neighbours → ℕ → Neighbours
with_point None u = One u
with_point (One a) u = cond (eqb a u) (One a) (Two a u)
with_point (Two a b) u = cond (eqb a u) (Two a b) (cond (eqb b u) (Two a b) More)
with_point More u = More

-- v's neighbours with the edge pq looked at
abbrev pub seen : ℕ → ℕ → ℕ → Neighbours → Neighbours
seen p q v m = cond (eqb p v) (with_point m q) (cond (eqb q v) (with_point m p) m)

-- the different neighbours of v
unfoldable pub neighbours_of : List Edge → ℕ → Neighbours
neighbours_of [] v = None
neighbours_of (edge p q ∷ es) v = seen p q v (neighbours_of es v)

-- a is x or y
unfoldable pub either? : ℕ → ℕ → ℕ → Bool
either? a x y = eqb a x || eqb a y

-- all the neighbours are x or y
unfoldable pub within? : Neighbours → ℕ → ℕ → Bool
within? None x y = true
within? (One a) x y = either? a x y
within? (Two a b) x y = either? a x y && either? b x y
within? More x y = false

-- the neighbours other than `from`
abbrev pub beyond : Neighbours → ℕ → PathStep
beyond None from = Stop
beyond (One a) from = cond (eqb a from) Stop (On a)
beyond (Two a b) from = cond (eqb a from) (On b) (cond (eqb b from) (On a) Fork)
beyond More from = Fork

-- the two neighbours, where there are exactly two
abbrev pub both_of : Neighbours → Option (ℕ × ℕ)
both_of None = Other
both_of (One a) = Other
both_of (Two a b) = Some (a, b)
both_of More = Other

-- the other ends of r's edges, where r has exactly two
abbrev pub ends_of : List Edge → ℕ → Option (ℕ × ℕ)
ends_of K r = both_of (neighbours_of K r)
