-- What the search at a split point looks up for every pair, computed once: the legs and the bound of K.
use Rattle.std.specs.Prelude.{ℕ, ◌+◌, ◌*◌, ◌≤◌, ◌<◌, ◌≡◌, Bool, List, [], ◌∷◌, length, get_or}
use Rattle.lengths.specs.Edge.{Edge, edge, Point, edge_count}
use Rattle.lengths.specs.Instance.{point_places}
use Rattle.lengths.specs.asks.Rows.{RowAt, Rows}
use Rattle.lengths.specs.Table.{length_of, Intervals}
use Rattle.marks.specs.Mark.{open_up_to, open_in, unstruck_in}
use Rattle.sets.specs.asks.Stored.{edge_list, Held}
use Rattle.sets.specs.declared.edge_set.EdgeSet.{EdgeSet}
use Rattle.search.specs.declared.split.Triangle.{Triangle}
use Rattle.rules.specs.PairTest.{candidate_leg?}
use Rattle.rules.specs.asks.Legs.{LegList, LegsOf, LegsBy}
use Rattle.rules.specs.asks.Bound.{bound_of, loose, tightened}

-- the edges of K are taken in: the legs are those of K as far as each of its edges goes, and the bound is that of K
pub record TakenOf (n : ℕ) (out put : ℕ → ℕ → ℕ) (open? : ℕ → ℕ → Bool) (K : List Edge) (c : ℕ) (legs : List ℕ) (bound : ℕ) : Type 0 where
  pub each : LegsOf n out put open? K c legs
  pub least : bound ≡ bound_of out put K c

-- the legs and the bound are those of K at c, its points of degree two taken in too
pub record Prepared (n : ℕ) (out put : ℕ → ℕ → ℕ) (open? : ℕ → ℕ → Bool) (K : List Edge) (c : ℕ) (legs : List ℕ) (bound : ℕ) : Type 0 where
  pub each : LegsBy n out c (candidate_leg? out put open? K c) legs
  pub least : bound ≡ bound_of out put K c

-- such an array, and a bound that is at most that of no edge
pub record Bounded (legs : List ℕ) (bound : ℕ) : Type 0 where
  pub list : LegList legs
  pub tight : bound ≤ loose

-- what the legs are asked about: the two tables, the marks, and the split point
pub record LegsAsked (n : ℕ) (out put marks : List ℕ) (c : ℕ) : Type 0 where
  pub intervals : Intervals n out put
  pub marked : length marks ≡ edge_count n
  pub centre : Point n c

-- what the triangle of c and pq is asked about: the row of p of what is taken out, and that of c of what is put in
pub record TriangleAsked (n : ℕ) (out put : List ℕ) (c p q : ℕ) : Type 0 where
  pub room_c : (n + 1) * c + n < length put
  pub room_p : (n + 1) * p + n < length out
  pub from : Point n p
  pub to : Point n q

-- what `triangle_of` answers: where the rows of p and q begin, the length pq as it is taken out, and cp and cq
-- as they are put in
pub record TriangleIn (n : ℕ) (out put : List ℕ) (c p q : ℕ) (t : Triangle) : Type 0 where
  pub start_p : t.ps ≡ (n + 1) * p
  pub start_q : t.qs ≡ (n + 1) * q
  pub is_pq : t.pq ≡ get_or out ((n + 1) * p + q) 0
  pub is_cp : t.cp ≡ get_or put ((n + 1) * c + p) 0
  pub is_cq : t.cq ≡ get_or put ((n + 1) * c + q) 0

-- what a split is prepared from: the two tables, their rows, the marks, the split point, and K
pub record SplitAsked (n : ℕ) (out put outrows putrows marks : List ℕ) (k : EdgeSet) (c : ℕ) : Type 0 where
  pub legs : LegsAsked n out put marks c
  pub in_out : Rows n out outrows
  pub in_put : Rows n put putrows
  pub held : Held n k

-- what the legs and the bound of K = {ab} are asked about
pub record EdgeAsked (n : ℕ) (out put : List ℕ) (a b c : ℕ) : Type 0 where
  pub intervals : Intervals n out put
  pub centre : Point n c
  pub from : Point n a
  pub to : Point n b

-- what taking in the edge uv of K is asked about: the same, the rows of the tables, and legs and a bound of them
pub record TakeAsked (n : ℕ) (out put outrows putrows : List ℕ) (c u v : ℕ) (legs : List ℕ) (bound : ℕ) : Type 0 where
  pub asked : EdgeAsked n out put u v c
  pub in_out : Rows n out outrows
  pub in_put : Rows n put putrows
  pub bounded : Bounded legs bound

-- what it leaves: where the legs were those of K, they are those of K with uv, and so is the bound
pub record TakenIn (n : ℕ) (out put : List ℕ) (c u v : ℕ) (legs : List ℕ) (bound : ℕ) (left : List ℕ) (r : ℕ) : Type 0 where
  pub list : LegList left
  pub each : (open? : ℕ → ℕ → Bool) (K : List Edge) → LegsOf n (length_of n out) (length_of n put) open? K c legs
      → LegsOf n (length_of n out) (length_of n put) open? (edge u v ∷ K) c left
  pub least : r ≡ tightened (length_of n out) (length_of n put) c u v bound

-- what writing three rows is asked about: an edge and a point, and room for three rows
pub record EdgeRowsAsked (n : ℕ) (out put : List ℕ) (a b c : ℕ) (rows : List ℕ) : Type 0 where
  pub asked : EdgeAsked n out put a b c
  pub size : length rows ≡ 3 * point_places

-- the row of c of what is taken out, and those of a and b of what is put in
pub record EdgeRows (n : ℕ) (out put : List ℕ) (a b c : ℕ) (rows : List ℕ) : Type 0 where
  pub row_c : RowAt n out rows 0 c
  pub row_a : RowAt n put rows point_places a
  pub row_b : RowAt n put rows (2 * point_places) b
  pub size : length rows ≡ 3 * point_places

-- where these rows begin, the length ab as it is taken out, and ca and cb as they are put in
pub record EdgeTriangle (n : ℕ) (out put : List ℕ) (a b c : ℕ) (t : Triangle) : Type 0 where
  pub start_a : t.ps ≡ point_places
  pub start_b : t.qs ≡ 2 * point_places
  pub is_ab : t.pq ≡ length_of n out a b
  pub is_ca : t.cp ≡ length_of n put c a
  pub is_cb : t.cq ≡ length_of n put c b

-- what the legs of K = {ab} are asked about: the same, with the marks
pub record EdgeLegsAsked (n : ℕ) (out put marks : List ℕ) (a b c : ℕ) : Type 0 where
  pub asked : EdgeAsked n out put a b c
  pub marked : length marks ≡ edge_count n

-- what `legs_for_edge` answers: the legs of K = {ab}, where a pending edge counts as open
pub record EdgeLegs (n : ℕ) (out put marks : List ℕ) (a b c : ℕ) (legs : List ℕ) : Type 0 where
  pub list : LegList legs
  pub each : LegsOf n (length_of n out) (length_of n put) (unstruck_in n marks) (edge a b ∷ []) c legs

-- what a split of one edge is prepared from: the two tables, the marks, the split point, and the set of that edge
pub record SingleAsked (n : ℕ) (out put marks : List ℕ) (k : EdgeSet) (c : ℕ) : Type 0 where
  pub legs : LegsAsked n out put marks c
  pub held : Held n k
  pub one : k.count ≡ 1

-- what `take_in_all` answers, with open edges
pub record AllTaken (n : ℕ) (out put marks : List ℕ) (k : EdgeSet) (c : ℕ) (legs : List ℕ) (bound : ℕ) : Type 0 where
  pub bounded : Bounded legs bound
  pub taken : TakenOf n (length_of n out) (length_of n put) (open_in n marks) (edge_list k) c legs bound

-- what `prepare` (with open) and `prepare_single` (with pending) answer: marks up to `most` count as open
pub record SplitOf (most n : ℕ) (out put marks : List ℕ) (k : EdgeSet) (c : ℕ) (legs : List ℕ) (bound : ℕ) : Type 0 where
  pub bounded : Bounded legs bound
  pub prepared : Prepared n (length_of n out) (length_of n put) (open_up_to most n marks) (edge_list k) c legs bound
