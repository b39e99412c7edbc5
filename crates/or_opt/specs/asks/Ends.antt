-- What the functions of `src/ends.rt` ask of their callers, and what they ensure, for every two tables
-- whose rows are lent.
use Rattle.std.specs.Prelude.{ℕ, ◌+◌, ◌*◌, ◌≤◌, ◌≡◌, Bool, List}
use Rattle.lengths.specs.Edge.{Point}
use Rattle.lengths.specs.Instance.{most_points, most_length}
use Rattle.lengths.specs.Table.{length_of}
use Rattle.lengths.specs.asks.Rows.{Rows}
use Rattle.lengths.specs.declared.two_tables.Rows.{Rows as TwoRows}
use Rattle.sets.specs.asks.Stored.{edge_list, Held}
use Rattle.sets.specs.declared.edge_set.EdgeSet.{EdgeSet}
use Rattle.rules.specs.PairTest.{every, stays?, end_at?, end_stays?}
use Rattle.rules.specs.asks.Legs.{LegList, RowsLent}
use Rattle.or_opt.specs.asks.DegreeTwo.{Further}

-- the rows
pub record Lent (rows : TwoRows) : Type 0 where
  pub few : rows.n ≤ most_points
  pub out_rows : RowsLent rows.n rows.out.now
  pub put_rows : RowsLent rows.n rows.put.now

pub record OntoAsked (rows : TwoRows) (w taken given u v : ℕ) : Type 0 where
  pub lent : Lent rows
  pub point : Point rows.n w
  pub from : Point rows.n u
  pub to : Point rows.n v
  pub two : taken ≤ 2 * most_length
  pub one : given ≤ most_length

-- where the numbers are the lengths of w's edges to s and t together, and of st
pub record Onto (rows : TwoRows) (w taken given u v : ℕ) (r : Bool) : Type 0 where
  pub told : (s t : ℕ) (low high : List ℕ) → Rows rows.n low rows.out.now → Rows rows.n high rows.put.now
      → taken ≡ length_of rows.n low w s + length_of rows.n low w t → given ≡ length_of rows.n high s t
      → r ≡ stays? (length_of rows.n low) (length_of rows.n high) w s t u v

pub record AllAsked (rows : TwoRows) (k : EdgeSet) (w taken given : ℕ) : Type 0 where
  pub lent : Lent rows
  pub held : Held rows.n k
  pub point : Point rows.n w
  pub two : taken ≤ 2 * most_length
  pub one : given ≤ most_length

pub record AtAll (rows : TwoRows) (k : EdgeSet) (w taken given : ℕ) (r : Bool) : Type 0 where
  pub told : (s t : ℕ) (low high : List ℕ) → Rows rows.n low rows.out.now → Rows rows.n high rows.put.now
      → taken ≡ length_of rows.n low w s + length_of rows.n low w t → given ≡ length_of rows.n high s t
      → r ≡ every (stays? (length_of rows.n low) (length_of rows.n high) w s t) (edge_list k)

pub record EndAsked (rows : TwoRows) (k : EdgeSet) (c x q : ℕ) : Type 0 where
  pub lent : Lent rows
  pub held : Held rows.n k
  pub centre : Point rows.n c
  pub point : Point rows.n x
  pub next : Point rows.n q

pub record EndTold (rows : TwoRows) (k : EdgeSet) (c x q : ℕ) (r : Bool) : Type 0 where
  pub told : (low high : List ℕ) → Rows rows.n low rows.out.now → Rows rows.n high rows.put.now
      → r ≡ every (stays? (length_of rows.n low) (length_of rows.n high) x c q) (edge_list k)

pub record LegAsked (rows : TwoRows) (k : EdgeSet) (c x q : ℕ) (legs : List ℕ) : Type 0 where
  pub end : EndAsked rows k c x q
  pub list : LegList legs

abbrev pub LegTold : (rows : TwoRows) → (k : EdgeSet) → (c x q : ℕ) → (legs left : List ℕ) → Type 0
LegTold rows k c x q legs left = Further rows c (λ (l m : ℕ → ℕ → ℕ) (z : ℕ). end_at? l m (edge_list k) c z x q) legs left

pub record EndsAsked (rows : TwoRows) (k : EdgeSet) (c : ℕ) (legs : List ℕ) : Type 0 where
  pub lent : Lent rows
  pub held : Held rows.n k
  pub centre : Point rows.n c
  pub list : LegList legs

abbrev pub EndsTold : (rows : TwoRows) → (k : EdgeSet) → (c : ℕ) → (legs left : List ℕ) → Type 0
EndsTold rows k c legs left = Further rows c (λ (l m : ℕ → ℕ → ℕ) (z : ℕ). end_stays? l m (edge_list k) c z) legs left
