-- All that arguments know of the rules: which pairs are feasible, and which 3-opt closings and new orders close a
-- case; and what the walk computes for these. Lengths, marks and cycles are not seen here; `Lawful` is what the rules
-- have to prove of themselves.
use Rattle.std.specs.Prelude.{ℕ, ◌≤◌, ◌<◌, ◌≡◌, Bool, true, ◌↔◌, List, [], ◌∷◌}
use Rattle.lengths.specs.Edge.{Edge, edge, Point}
use Rattle.sets.specs.EdgeSet.{with_pair}
use Rattle.sets.specs.Rising.{Among, Rising}

-- each number of the list is a point
abbrev pub Points : ℕ → List ℕ → Type 0
Points n [] = Unit {0}
Points n (x ∷ xs) = Point n x × Points n xs

pub record Rules : Type 1 where
  -- how many points there are
  pub n : ℕ
  -- the pair x, y stands at c under K
  pub Feasible : (K : List Edge) (c x y : ℕ) → Type 0
  -- the 3-opt closing of pq with the centres r and s closes K: it keeps 01's conditions, and some labelling saves
  pub Closes : (K : List Edge) (p q r s : ℕ) → Type 0
  -- the new order vs of the segment from u to v closes K (02, Paper 10)
  pub Reorders : (K : List Edge) (u v : ℕ) (vs : List ℕ) → Type 0
  -- what the walk goes by: the list of the feasible pairs
  pub pairs : (K : List Edge) (c : ℕ) → List Edge
  -- and 0 if the 3-opt closing closes K, else the number of its refusal
  pub closing : (K : List Edge) (p q r s : ℕ) → ℕ
  -- whether K has a segment from u to v; and 0 if the new order vs of it closes K, else the number of its refusal
  pub segment : (K : List Edge) (u v : ℕ) → Bool
  pub reordering : (K : List Edge) (u v : ℕ) (vs : List ℕ) → ℕ

-- the same rules, whose walk goes by another list
abbrev pub listed_by : Rules → (list : List Edge → ℕ → List Edge) → Rules
listed_by R list =
    record {
      n = R.n;
      Feasible = R.Feasible;
      Closes = R.Closes;
      Reorders = R.Reorders;
      pairs = list;
      closing = R.closing;
      segment = R.segment;
      reordering = R.reordering;
    }

-- "exactly the standing pairs, in rising order"
pub record NamesFeasible (R : Rules) (K : List Edge) (c : ℕ) (named : List Edge) : Type 0 where
  pub rising : Rising named
  pub exactly : (x y : ℕ) → Among named x y ↔ R.Feasible K c x y

-- the sets K that an argument comes to: an edge of two different points, and such a set with a pair that
-- is feasible there
pub data Reached (R : Rules) : List Edge → Type 0 where
  single : {a b : ℕ} → Point R.n a → Point R.n b → (a ≡ b → ⊥) → Reached R (edge a b ∷ [])
  grown : {K : List Edge} {c x y : ℕ} → Reached R K → Point R.n c → R.Feasible K c x y → Reached R (with_pair K c x y)

pub record Lawful (R : Rules) : Type 0 where
  pub listed : (K : List Edge) (c : ℕ) → Reached R K → NamesFeasible R K c (R.pairs K c)
  pub closed : (K : List Edge) (p q r s : ℕ) → R.closing K p q r s ≡ 0 → R.Closes K p q r s
  pub closes : (K : List Edge) (p q r s : ℕ) → R.Closes K p q r s → R.closing K p q r s ≡ 0
  -- a feasible pair is two points, the lower first
  pub pair_points : (K : List Edge) (c x y : ℕ) → R.Feasible K c x y → Point R.n x × Point R.n y × (x < y)
  -- a 3-opt closing that closes K names points
  pub three_opt_points : (K : List Edge) (p q r s : ℕ) → Reached R K → R.Closes K p q r s
      → Point R.n p × Point R.n q × Point R.n r × Point R.n s
  -- a new order closes K exactly where there is a segment and the number is 0, on every set that an argument comes to;
  -- it names points, and is refused by 23 or 24
  pub reordered : (K : List Edge) (u v : ℕ) (vs : List ℕ) → Reached R K → R.segment K u v ≡ true → R.reordering K u v vs ≡ 0
      → R.Reorders K u v vs
  pub has_segment : (K : List Edge) (u v : ℕ) (vs : List ℕ) → Reached R K → R.Reorders K u v vs → R.segment K u v ≡ true
  pub reorders : (K : List Edge) (u v : ℕ) (vs : List ℕ) → Reached R K → R.Reorders K u v vs → R.reordering K u v vs ≡ 0
  pub reorder_points : (K : List Edge) (u v : ℕ) (vs : List ℕ) → Reached R K → R.Reorders K u v vs
      → Point R.n u × Point R.n v × Points R.n vs
  pub reordering_number : (K : List Edge) (u v : ℕ) (vs : List ℕ) → 1 ≤ R.reordering K u v vs
      → (23 ≤ R.reordering K u v vs) × (R.reordering K u v vs ≤ 24)
  -- a 3-opt closing is refused by 15 or 16
  pub closing_number : (K : List Edge) (p q r s : ℕ) → 1 ≤ R.closing K p q r s → (15 ≤ R.closing K p q r s) × (R.closing K p q r s ≤ 16)
