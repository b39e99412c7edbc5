-- What the functions of `src/degree_two.rt` ask of their callers, and what they ensure: for every two tables whose rows
-- are lent, what is said of the legs is said by the lengths of the first, taken out, and of the second, put in.
use Rattle.std.specs.Prelude.{ℕ, ◌≤◌, ◌<◌, ◌≡◌, Bool, ◌&&◌, List, get_or}
use Rattle.lengths.specs.Edge.{Point}
use Rattle.lengths.specs.Instance.{most_points}
use Rattle.lengths.specs.Table.{length_of}
use Rattle.lengths.specs.asks.Rows.{Rows}
use Rattle.lengths.specs.declared.two_tables.Rows.{Rows as TwoRows}
use Rattle.sets.specs.asks.Stored.{edges_of, edge_list, Held}
use Rattle.sets.specs.declared.edge_set.EdgeSet.{EdgeSet}
use Rattle.rules.specs.PairTest.{every, joint?, meeting?, apart?, degree_two_stays?}
use Rattle.rules.specs.asks.Legs.{LegList, LegsBy, RowsLent}

-- the legs pass a further test: where they were the lengths to the points that pass one, they are those to the
-- points that pass both
pub record Further (rows : TwoRows) (c : ℕ) (test : (l m : ℕ → ℕ → ℕ) → ℕ → Bool) (legs left : List ℕ) : Type 0 where
  pub list : LegList left
  pub each : (low high : List ℕ) → Rows rows.n low rows.out.now → Rows rows.n high rows.put.now → (g : ℕ → Bool) → LegsBy rows.n (length_of rows.n low) c g legs
      → LegsBy rows.n (length_of rows.n low) c (λ (x : ℕ). test (length_of rows.n low) (length_of rows.n high) x && g x) left

-- the rows and the legs
pub record LegsLent (rows : TwoRows) (c : ℕ) (legs : List ℕ) : Type 0 where
  pub few : rows.n ≤ most_points
  pub centre : Point rows.n c
  pub out_rows : RowsLent rows.n rows.out.now
  pub put_rows : RowsLent rows.n rows.put.now
  pub list : LegList legs

pub record MeetAsked (rows : TwoRows) (c w s t : ℕ) (legs : List ℕ) : Type 0 where
  pub lent : LegsLent rows c legs
  pub point : Point rows.n w
  pub first : Point rows.n s
  pub second : Point rows.n t

pub record MoveAsked (rows : TwoRows) (c w s t : ℕ) (legs : List ℕ) : Type 0 where
  pub asked : MeetAsked rows c w s t legs
  pub apart : w ≡ c → ⊥

abbrev pub Moved : (rows : TwoRows) → (c w s t : ℕ) → (legs left : List ℕ) → Type 0
Moved rows c w s t legs left = Further rows c (λ (l m : ℕ → ℕ → ℕ) (x : ℕ). joint? l m c x w s t) legs left

abbrev pub Met : (rows : TwoRows) → (c w z s t : ℕ) → (legs left : List ℕ) → Type 0
Met rows c w z s t legs left = Further rows c (λ (l m : ℕ → ℕ → ℕ) (x : ℕ). meeting? l m c x w z s t) legs left

pub record TwoAsked (rows : TwoRows) (c p q u v : ℕ) (legs : List ℕ) : Type 0 where
  pub lent : LegsLent rows c legs
  pub point_p : Point rows.n p
  pub point_q : Point rows.n q
  pub point_u : Point rows.n u
  pub point_v : Point rows.n v

abbrev pub TwoTold : (rows : TwoRows) → (c p q u v : ℕ) → (legs left : List ℕ) → Type 0
TwoTold rows c p q u v legs left = Further rows c (λ (l m : ℕ → ℕ → ℕ) (x : ℕ). apart? l m c x p q u v) legs left

pub record PointsAsked (rows : TwoRows) (k : EdgeSet) (c : ℕ) (legs : List ℕ) : Type 0 where
  pub lent : LegsLent rows c legs
  pub held : Held rows.n k

pub record WithAsked (rows : TwoRows) (k : EdgeSet) (c i : ℕ) (legs : List ℕ) : Type 0 where
  pub all : PointsAsked rows k c legs
  pub stored : i < k.count

abbrev pub WithTold : (rows : TwoRows) → (k : EdgeSet) → (c i : ℕ) → (legs left : List ℕ) → Type 0
WithTold rows k c i legs left =
    Further rows c
    (λ (l m : ℕ → ℕ → ℕ) (x : ℕ). every (apart? l m c x (get_or k.from i 0) (get_or k.to i 0)) (edges_of k.from k.to i))
    legs left

abbrev pub PointsTold : (rows : TwoRows) → (k : EdgeSet) → (c : ℕ) → (legs left : List ℕ) → Type 0
PointsTold rows k c legs left = Further rows c (λ (l m : ℕ → ℕ → ℕ) (x : ℕ). degree_two_stays? l m (edge_list k) c x) legs left
