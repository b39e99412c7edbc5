-- The walk through an argument's records, with 01's refusals in 01's order ("Each operation and its refusals").
-- `follow` and `close` are open: they take what to do with a further chain as `go`, and `walk` is the one that
-- goes on as itself.
use Rattle.std.specs.Prelude.{ℕ, zero, suc, ◌-◌, Bool, true, false, ◌&&◌, List, [], ◌∷◌, ◌++◌, leb, ltb, eqb}
use Rattle.lengths.specs.Edge.{Edge, edge}
use Rattle.sets.specs.EdgeSet.{with_pair}
use Rattle.argument.specs.Verdict.{Verdict, accepted, refused, guard, refused_by, and_then}
use Rattle.lengths.specs.Instance.{is_point}
use Rattle.argument.specs.Record.{CaseClosing, splits, three_opts, reorders, Record, line, case, visit, other, records, record_at, fits}
use Rattle.argument.specs.Rules.{Rules}

-- where a walk stands in a chain of cases: at an index that is yet to be followed
pub record Spot : Type 0 where
  -- how many splits may still lie one inside another in a case
  pub left : ℕ
  -- the split: K and its point
  pub known : List Edge
  pub point : ℕ
  -- the standing pairs that no case has named yet
  pub pairs : List Edge
  -- the record that has the index: the last case, or the owner of the split
  pub last : ℕ
  pub index : ℕ
  -- the highest record entered
  pub high : ℕ

-- "on each index followed: 8, above the record count; 9, not above the highest record entered; both name the record
-- that has the index"
unfoldable pub entering : {A : Type 0} → (s : List ℕ) (last high i : ℕ) → (Unit {0} → Verdict A) → Verdict A
entering s last high i go =
    guard (leb i (records s)) 8 last λ _.
    guard (ltb high i) 9 last go

unfoldable pub none_left : List Edge → Bool
none_left [] = true
none_left (e ∷ es) = false

-- the pair a, b is the next standing one
unfoldable pub is_next : List Edge → (a b : ℕ) → Bool
is_next [] a b = false
is_next (edge x y ∷ es) a b = eqb x a && eqb y b

unfoldable pub rest : List Edge → List Edge
rest [] = []
rest (e ∷ es) = es

-- what a chain does at its next index: it ends, or it takes a case whose pair is the next standing one
pub data ChainStep : Type 0 where
  ends : ChainStep
  takes : (a b : ℕ) → CaseClosing → (next : ℕ) → ChainStep

-- "10, wrong kind for its chain ..; 11 ..; 14, its pair is not the next standing one"
unfoldable pub read_case : Rules → Spot → Record → Verdict ChainStep
read_case R q (line a b c first next) = refused 10 q.index
read_case R q (case a b how next) =
    guard (fits R.n a b how) 11 q.index λ _.
    guard (is_next q.pairs a b) 14 q.index λ _. accepted (takes a b how next)
read_case R q (visit v next) = refused 10 q.index
read_case R q other = refused 10 q.index

-- "If a chain ends with standing pairs left, 14 names its last record, or the owner of the split if the chain is empty"
unfoldable pub look : Rules → List ℕ → Spot → Verdict ChainStep
look R s q =
    elim (eqb q.index 0) [
      | true ↦ guard (none_left q.pairs) 14 q.last λ _. accepted ends
      | false ↦ entering s q.last q.high q.index λ _. read_case R q (record_at s q.index)
    ]

-- a split's chain at its beginning, the split being held by record i
unfoldable pub opening : Rules → (left : ℕ) (K : List Edge) (i c first : ℕ) → Spot
opening R left K i c first = record { left = left - 1; known = K; point = c; pairs = R.pairs K c; last = i; index = first; high = i }

-- the chain behind a case whose record is the one at q's index
unfoldable pub behind : Spot → (next high : ℕ) → Spot
behind q next high =
    record { left = q.left; known = q.known; point = q.point; pairs = rest q.pairs; last = q.index; index = next; high = high }

-- what a chain of points does at its next index (02, Paper 10): it ends, or it names a point
pub data VisitStep : Type 0 where
  visit_ends : VisitStep
  names : (v next : ℕ) → VisitStep

-- "Refusal 11 reads only the point in a kind 5 record"
unfoldable pub read_visit : ℕ → (i : ℕ) → Record → Verdict VisitStep
read_visit n i (line a b c first next) = refused 10 i
read_visit n i (case a b how next) = refused 10 i
read_visit n i (visit v next) = guard (is_point n v) 11 i λ _. accepted (names v next)
read_visit n i other = refused 10 i

-- the last record of such a chain is the highest entered
unfoldable pub look_visit : ℕ → List ℕ → (high i : ℕ) → Verdict VisitStep
look_visit n s high i =
    elim (eqb i 0) [
      | true ↦ accepted visit_ends
      | false ↦ entering s high high i λ _. read_visit n i (record_at s i)
    ]

-- what a chain of points comes to: the points that it names, and the highest record entered
pub record Visited : Type 0 where
  pub order : List ℕ
  pub high : ℕ

-- a chain of points at its next index i, behind the points `order`, whose further points are left to `go`
unfoldable pub act_visit : (go : (order : List ℕ) (high i : ℕ) → Verdict Visited) (order : List ℕ) (high i : ℕ) → VisitStep
    → Verdict Visited
act_visit go order high i visit_ends = accepted (record { order = order; high = high })
act_visit go order high i (names v next) = go (order ++ v ∷ []) i next

unfoldable pub visit_on : ℕ → List ℕ → (go : (order : List ℕ) (high i : ℕ) → Verdict Visited) (order : List ℕ) (high i : ℕ)
    → Verdict Visited
visit_on n s go order high i = and_then (look_visit n s high i) (act_visit go order high i)

unfoldable pub visit_by : ℕ → List ℕ → (fuel : ℕ) (order : List ℕ) (high i : ℕ) → Verdict Visited
visit_by n s zero order high i = refused 0 0
visit_by n s (suc fuel) order high i = visit_on n s (visit_by n s fuel) order high i

unfoldable pub visited : ℕ → List ℕ → (order : List ℕ) (high i : ℕ) → Verdict Visited
visited n s order high i = visit_by n s (suc (records s)) order high i

-- a new order that record i holds, where `there` says whether there is a segment and `number` what an order of it is
-- refused by: "23, no such stretch, tested before the chain is entered, or not its inner points, tested when the chain
-- has ended; 24, not shorter, after that"
unfoldable pub close_by_order : (n : ℕ) (there : Bool) (number : List ℕ → ℕ) (s : List ℕ) (i first : ℕ) → Verdict ℕ
close_by_order n there number s i first =
    guard there 23 i λ _. and_then (visited n s [] i first) λ r. refused_by (number r.order) i r.high

-- the closing that record i holds, under K with its pair: "13, a seventh split; 15, a crossing's edge or centres
-- break a condition above; 16, no labelling saves"; or 23 and 24 of a new order. It answers the highest record entered.
unfoldable pub close : Rules → List ℕ → (go : Spot → Verdict ℕ) (left : ℕ) (K : List Edge) (i : ℕ) → CaseClosing → Verdict ℕ
close R s go left K i (splits c first) = guard (ltb 0 left) 13 i λ _. go (opening R left K i c first)
close R s go left K i (three_opts p q r u) = refused_by (R.closing K p q r u) i i
close R s go left K i (reorders u v first) = close_by_order R.n (R.segment K u v) (R.reordering K u v) s i first

-- a chain at its next index, whose further chains are left to `go`
unfoldable pub act : Rules → List ℕ → (go : Spot → Verdict ℕ) → Spot → ChainStep → Verdict ℕ
act R s go q ends = accepted q.high
act R s go q (takes a b how next) =
    and_then (close R s go q.left (with_pair q.known q.point a b) q.index how) λ high. go (behind q next high)

unfoldable pub follow : Rules → List ℕ → (go : Spot → Verdict ℕ) → Spot → Verdict ℕ
follow R s go q = and_then (look R s q) (act R s go q)

-- the walk of at most so many records
unfoldable pub walk_by : Rules → List ℕ → (fuel : ℕ) → Spot → Verdict ℕ
walk_by R s zero q = refused 0 0
walk_by R s (suc fuel) q = follow R s (walk_by R s fuel) q

-- the walk: no chain enters more records than the sheet has
unfoldable pub walk : Rules → List ℕ → Spot → Verdict ℕ
walk R s q = walk_by R s (suc (records s)) q
