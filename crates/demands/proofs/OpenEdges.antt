-- What marks that keep shortest tours keep besides (02, Paper 9): at least two open edges at every point, and at least
-- n open edges. A shortest tour exists under every table, and a tour has two edges at each point and n different edges.
-- Assumes nothing.
use Prim.Native.Nat.{ℕ, ◌≤◌}
use mathlib.Core.Path.{◌≡◌, refl, ◌∙◌, ap}
use mathlib.Core.Bool.{true}
use mathlib.Core.Logic.{inl, inr}
use mathlib.Core.List.{List, [], ◌∷◌}
use native.Mathlib.Omega.{arith}
use Rattle.lengths.specs.Edge.{Point, Edge, edge, IsEdge}
use Rattle.lengths.specs.Instance.{least_points}
use Rattle.lengths.specs.Table.{length_of}
use Rattle.sets.specs.EdgeSet.{Joins, Has, closed_edges}
use Rattle.marks.specs.Mark.{struck_mark, open_mark, opens, open_up_to, open_in, open_count, strike_in}
use Rattle.marks.specs.Degree.{open_degree}
use Rattle.marks.proofs.Degrees.{degree_two}
use Rattle.tours.specs.Tour.{Tour, Uses, Shortest, total, tour_length}
use Rattle.tours.proofs.Count.{tour_once, tour-length}
use Rattle.tours.proofs.Edges.{mark, mark_true, has_total, one, length_one}
use Rattle.tours.proofs.TourNeighbours.{tour_edge, uses_once, TourNeighbours, tour_neighbours}
use Rattle.demands.specs.Keeping.{Serves, KeepsTours}
use Rattle.demands.specs.Run.{Tables}
use Rattle.demands.proofs.Exists.{shortest_exists}
use Rattle.demands.proofs.Strikes.{struck_count, marked_other}

-- Edges of n points, none of them twice and all of them open, are no more than the open marks. Strike the first: one
-- open mark is gone, and the others are as they were, so that the rest are no more than the open marks left.
open_few :
    {n : ℕ} (es : List Edge) (marks : List ℕ) → ((a b : ℕ) → Has es a b → IsEdge n a b) → ((a b : ℕ) → Has es a b → total (mark a b) es ≡ 1) →
    ((a b : ℕ) → Has es a b → open_in n marks a b ≡ true) → total one es ≤ open_count marks
unfolding total
open_few [] marks edges once opens = omega arith
open_few {n} (edge a b ∷ es) marks edges once opens =
    omega (arith, struck_count n marks a b (opens a b here), open_few es (strike_in n marks a b) (λ c d h. edges c d (inr h)) once_after opens_after)
  where
    here : Has (edge a b ∷ es) a b
    here = inl (inl (refl, refl))

    once_after : (c d : ℕ) → Has es c d → total (mark c d) es ≡ 1
    once_after c d h = omega (arith, once c d (inr h), has_total es c d h)

    -- a further edge is not ab, which would then be there twice
    another : (c d : ℕ) → Has es c d → Joins (edge a b) c d → ⊥
    another c d h j = omega (arith, once c d (inr h), mark_true c d a b j, has_total es c d h)

    opens_after : (c d : ℕ) → Has es c d → open_in n (strike_in n marks a b) c d ≡ true
    opens_after c d h = marked_other struck_mark marks (edges a b here) (edges c d (inr h)) (another c d h) ∙ opens c d (inr h)

-- marks in which every edge of a tour is open
module _ {n : ℕ} (some : least_points ≤ n) {t : List ℕ} (T : Tour n t) (marks : List ℕ) (opens : (a b : ℕ) → Uses t a b → open_in n marks a b ≡ true) where
  -- the two neighbours of v in the tour are two points with an open edge to v
  pub tour_degree : (v : ℕ) → Point n v → 2 ≤ open_degree n marks v
  tour_degree v p =
      let N : TourNeighbours n t v = tour_neighbours T (omega arith) v p in
      degree_two marks v N.point_x N.point_y N.apart N.apart_x N.apart_y (opens v N.x N.uses_x) (opens v N.y N.uses_y)

  -- the tour has n edges, none of them twice
  pub tour_count : n ≤ open_count marks
  unfolding tour_length
  tour_count =
      omega (
        arith,
        tour-length T,
        length_one t,
        open_few (closed_edges t) marks (tour_edge T (omega arith)) (uses_once t (tour_once T) (omega (arith, tour-length T))) opens,
      )

module _ (n : ℕ) (T : Tables) (marks : List ℕ) where
  module _ (some : least_points ≤ n) {table : List ℕ} (served : Serves n T table) (keeps : KeepsTours Shortest n T marks) where
    -- the edges of a tour that is shortest under a table which the marks serve
    all_open : (a b : ℕ) → Uses (shortest_exists n (length_of n table)).0 a b → open_in n marks a b ≡ true
    unfolding open_up_to
    all_open a b u = let s = shortest_exists n (length_of n table) in ap (opens open_mark) (keeps table served s.0 s.1 a b u)

    -- PAPER 9: where marks keep shortest tours, every point has at least two open edges, and at least n edges are open.
    -- Some tour is shortest under a table that the marks serve, and all its edges are open. A point v stands in it
    -- once, and n is at least 3, so the points before and after v are two, neither of them v: two open edges at v. The
    -- tour has n edges and none of them twice: without v it is a path that does not come by v, so an edge at v is one
    -- of the two that join v to the path's ends, and these differ. An edge has one mark, and different edges have
    -- different ones. Strike the n edges one after the other: each was open until then, so each takes one open mark
    -- away. So at least n were open.
    pub keeps_degree : (v : ℕ) → Point n v → 2 ≤ open_degree n marks v
    keeps_degree = tour_degree some (shortest_exists n (length_of n table)).1.tour marks all_open

    pub keeps_count : n ≤ open_count marks
    keeps_count = tour_count some (shortest_exists n (length_of n table)).1.tour marks all_open
