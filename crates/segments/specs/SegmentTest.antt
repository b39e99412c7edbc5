-- The segment of K from u to v and the test of a new order of it, computed: the twins of `Segment` and `Reorders`.
use Rattle.std.specs.List.{list_any, list_all}
use Rattle.std.specs.Prelude.{ℕ, zero, suc, Bool, true, false, ◌&&◌, ◌||◌, cond, List, [], ◌∷◌, ◌++◌, Result, Ok, Err, eqb, ltb, length}
use Rattle.lengths.specs.Refusal.{refusal_number}
use Rattle.lengths.specs.declared.refusal.Refusal.{Refusal}
use Rattle.lengths.specs.declared.refusal.Refusal.TheVariants.{NoSegment, NotShorter}
use Rattle.lengths.specs.Edge.{Edge}
use Rattle.sets.specs.EdgeSet.{path_edges}
use Rattle.sets.specs.Joined.{has?}
use Rattle.sets.specs.Neighbours.{neighbours_of, beyond}
use Rattle.sets.specs.declared.neighbours.Neighbours.{Neighbours}
use Rattle.sets.specs.declared.neighbours.Neighbours.TheVariants.{None, One, Two, More}
use Rattle.sets.specs.declared.neighbours.PathStep.{PathStep}
use Rattle.sets.specs.declared.neighbours.PathStep.TheVariants.{Stop, On, Fork}
use Rattle.tours.specs.Tour.{total}

-- the points found from the point that a path goes on to, where it goes on to just one
unfoldable pub led_to : PathStep → (ℕ → List ℕ) → List ℕ
led_to Stop g = []
led_to (On w) g = g w
led_to Fork g = []

-- the path that leaves u and comes from `from` to `at`, with the points `passed` between u and `at`: these where `at`
-- is v, else what is found further on; nothing where it comes back to u, goes on to no one point, or has no step left
unfoldable pub followed : ℕ → List Edge → (u v from at : ℕ) → List ℕ → List ℕ
followed zero K u v from at passed = []
followed (suc f) K u v from at passed =
    cond (eqb at v) passed (cond (eqb at u) [] (led_to (beyond (neighbours_of K at) from) (λ w. followed f K u v at w (passed ++ at ∷ []))))

-- the points between u and v on the path that leaves u over its neighbour a. A path of K has at most K's edges.
unfoldable pub over : List Edge → (u v a : ℕ) → List ℕ
over K u v a = followed (length K) K u v u a []

-- of two ways the one that leads to v; nothing where both do, as in a closed tour
unfoldable pub only_way : List ℕ → List ℕ → List ℕ
only_way [] ys = ys
only_way (x ∷ xs) [] = x ∷ xs
only_way (x ∷ xs) (y ∷ ys) = []

-- the points between u and v, with the neighbours of u
unfoldable pub between : List Edge → (u v : ℕ) → Neighbours → List ℕ
between K u v None = []
between K u v (One a) = over K u v a
between K u v (Two a b) = only_way (over K u v a) (over K u v b)
between K u v More = []

-- the inner points of the segment from u to v, in this order; nothing where there is none
unfoldable pub segment_of : List Edge → (u v : ℕ) → List ℕ
segment_of K u v = cond (eqb u v || has? K u v) [] (between K u v (neighbours_of K u))

-- a list has a point
unfoldable pub some? : List ℕ → Bool
some? [] = false
some? (x ∷ xs) = true

-- there is a segment from u to v
unfoldable pub segment? : List Edge → (u v : ℕ) → Bool
segment? K u v = some? (segment_of K u v)

-- x is one of vs
abbrev pub named? : ℕ → List ℕ → Bool
named? x vs = list_any (λ v. eqb v x) vs

-- each of ws is one of vs
abbrev pub all_named? : List ℕ → List ℕ → Bool
all_named? ws vs = list_all (λ w. named? w vs) ws

-- vs names each of ws once and nothing else, for ws with no point twice: it names them all and has as many
abbrev pub same_points? : List ℕ → List ℕ → Bool
same_points? vs ws = eqb (length vs) (length ws) && all_named? ws vs

-- what the new order vs of the inner points ws from u to v comes to
abbrev pub reordered : (out put : ℕ → ℕ → ℕ) (ws : List ℕ) (u v : ℕ) (vs : List ℕ) → Result (Unit {0}) Refusal
reordered out put ws u v vs =
    cond (same_points? vs ws) (cond (ltb (total put (path_edges u vs v)) (total out (path_edges u ws v))) (Ok tt) (Err NotShorter)) (Err NoSegment)

-- its refusal by 02, Paper 10, 0 where it refuses nothing
abbrev pub refusal_of : Result (Unit {0}) Refusal → ℕ
refusal_of (Ok u) = 0
refusal_of (Err r) = refusal_number r

-- the refusal of the new order vs of the segment from u to v under K
abbrev pub reordering : (out put : ℕ → ℕ → ℕ) (K : List Edge) (u v : ℕ) (vs : List ℕ) → ℕ
reordering out put K u v vs = refusal_of (reordered out put (segment_of K u v) u v vs)
