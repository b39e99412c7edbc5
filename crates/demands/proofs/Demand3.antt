-- DEMAND 3: no run of sheets strikes an edge of a shortest tour. First what a program calls, the functions for C; then
-- the same of the marks of the edges, as 01 has it. All are the one run (`Runs`, `PackedRuns`) with what it keeps
-- (`OpenEdges`). Assumes nothing.
use Prim.Native.Nat.{ℕ, ◌≤◌, ◌<◌}
use mathlib.Core.Path.{◌≡◌, refl, ap, subst}
use mathlib.Core.Bool.{true}
use mathlib.Core.Logic.{inl, inr}
use mathlib.Core.List.{List, map}
use native.Mathlib.Decide.{dec_le}
use native.Mathlib.Omega.{arith}
use lib.ListN.{length, get_or, get_or-eq_default}
use Rattle.endian.specs.Bytes.{numbers32, whole32}
use Rattle.lengths.specs.Edge.{Point, edge_count, place}
use Rattle.lengths.specs.Instance.{least_points, most_points}
use Rattle.lengths.specs.Table.{length_of}
use Rattle.lengths.proofs.Edges.{place_onto}
use Rattle.lengths.proofs.Tables.{length_up}
use Rattle.marks.specs.Degree.{open_degree}
use Rattle.marks.specs.Mark.{mark_at, open_mark, opens, open_up_to, open_in, open_count}
use Rattle.marks.specs.Packed.{packed_size, marks_of}
use Rattle.tours.specs.Tour.{Uses, Shortest, ThreeOptimal}
use Rattle.demands.specs.Between.{Between}
use Rattle.demands.specs.Keeping.{Ordered, Serves, OrderFree}
use Rattle.demands.specs.Run.{Tables, one_table, intervals_alone, Call, Step, marking, marking-between, steps_of, steps_in_c, step_in, lengths_in, fresh_from, fresh_in}
use Rattle.demands.proofs.OpenEdges.{keeps_degree, keeps_count}
use Rattle.demands.proofs.PackedRuns.{three_optimal_open_in_c, shortest_open_in_c}
use Rattle.demands.proofs.Runs.{shortest_open}

-- a table serves itself: it lies between itself and itself
same_between : (table : List ℕ) → Between table table table
same_between table = record { from_low = λ i. omega arith; to_high = λ i. omega arith }

pub one_serves : {n : ℕ} {table : List ℕ} → length table ≡ edge_count n → Serves n (one_table table) table
one_serves {table = table} whole = record { whole = whole; between = λ ordered. same_between table; own = inl refl }

-- limits serve every table between them, whichever board is cut
pub intervals_serve : {n : ℕ} {low high table : List ℕ} → length table ≡ edge_count n → Between low high table → Serves n (intervals_alone low high) table
intervals_serve whole intervals = record { whole = whole; between = λ ordered. intervals; own = inr refl }

-- and always the low one: where a low length is above its high one, no call over the two is taken
ordered_between : (n : ℕ) (low high : List ℕ) → length low ≡ edge_count n → Ordered n low high → Between low high low
ordered_between n low high whole ordered = record { from_low = λ i. omega arith; to_high = λ i. at i (dec_le (edge_count n) i) }
  where
    at : (i : ℕ) → Dec (edge_count n ≤ i) → get_or low i 0 ≤ get_or high i 0
    at i (yes past) = omega (arith, get_or-eq_default low 0 {n = i} (omega (arith, whole)))
    at i (no inside) =
        let e = place_onto n i (omega arith) in
        let up : e.a < e.b = e.is-edge.up in
        subst (λ (j : ℕ). get_or low j 0 ≤ get_or high j 0) e.at (omega (arith, ordered e.a e.b, length_up n low e.a e.b up, length_up n high e.a e.b up))

pub low_serves : {n : ℕ} {low high : List ℕ} → length low ≡ edge_count n → Serves n (intervals_alone low high) low
low_serves {n} {low} {high} whole = record { whole = whole; between = ordered_between n low high whole; own = inr refl }

module _ (n : ℕ) (some : least_points ≤ n) (most : n ≤ most_points) (before : List ℕ) (sized : length before ≡ packed_size n) where
  module _ (T : Tables) (low-whole : length (whole32 T.low) ≡ edge_count n) (steps : List Step) where
    -- PAPER 9 in C, where the marks serve some table: the board's own (`one_serves`), one between low and high
    -- (`intervals_serve`), or the low one (`low_serves`)
    module _ {table : List ℕ} (served : Serves n (lengths_in T) table) where
      pub two_open_edges_in_c : (v : ℕ) → Point n v → 2 ≤ open_degree n (marks_of n (steps_in_c T steps (fresh_in n before))) v
      two_open_edges_in_c = keeps_degree n (lengths_in T) _ some served (shortest_open_in_c n some most before sized T low-whole steps)

      pub n_open_edges_in_c : n ≤ open_count (marks_of n (steps_in_c T steps (fresh_in n before)))
      n_open_edges_in_c = keeps_count n (lengths_in T) _ some served (shortest_open_in_c n some most before sized T low-whole steps)

  -- THE RUN OVER TWO TABLES in C (02, Paper 11): "One set of marks must then serve whichever board is cut: for every
  -- table whose lengths lie between the two, ends included, each of its shortest tours has all its edges open after any
  -- run of such sheets". The run stands before the table, so one set serves all; and it holds of 3-optimal tours. It is
  -- the run whose board is not known.
  module _ (low high : List ℕ) (low-whole : length (whole32 low) ≡ edge_count n) (calls : List Call) where
    pub three_optimal_open_between_in_c : OrderFree (map step_in (map marking-between calls)) → (table : List ℕ) → length table ≡ edge_count n → Between (whole32 low) (whole32 high) table →
        (t : List ℕ) → ThreeOptimal n (length_of n table) t → (a b : ℕ) → Uses t a b →
        mark_at (marks_of n (steps_in_c (intervals_alone low high) (map marking-between calls) (fresh_in n before))) (place n a b) ≡ open_mark
    unfolding numbers32 whole32
    three_optimal_open_between_in_c free table whole intervals =
        three_optimal_open_in_c n some most before sized (intervals_alone low high) low-whole (map marking-between calls) free table (intervals_serve whole intervals)

    pub shortest_open_between_in_c : (table : List ℕ) → length table ≡ edge_count n → Between (whole32 low) (whole32 high) table →
        (t : List ℕ) → Shortest n (length_of n table) t → (a b : ℕ) → Uses t a b →
        mark_at (marks_of n (steps_in_c (intervals_alone low high) (map marking-between calls) (fresh_in n before))) (place n a b) ≡ open_mark
    unfolding numbers32 whole32
    shortest_open_between_in_c table whole intervals =
        shortest_open_in_c n some most before sized (intervals_alone low high) low-whole (map marking-between calls) table (intervals_serve whole intervals)

  -- DEMAND 3 in C: for every n from 4 to 180, every table of n(n - 1)/2 lengths, every list of calls of
  -- `revosti_mark_sheet` and every shortest tour, each edge of the tour is open after the run that starts from the set
  -- that `revosti_fresh_marks` left in a buffer for this n. Table and sheets are bytes.
  pub demand_3_in_c : (table : List ℕ) → length (whole32 table) ≡ edge_count n → (calls : List Call) (t : List ℕ) → Shortest n (length_of n (whole32 table)) t →
      (a b : ℕ) → Uses t a b → open_in n (marks_of n (steps_in_c (one_table table) (map marking calls) (fresh_in n before))) a b ≡ true
  unfolding open_up_to
  demand_3_in_c table whole calls t best a b u =
      ap (opens open_mark) (shortest_open_in_c n some most before sized (one_table table) whole (map marking calls) (whole32 table) (one_serves whole) t best a b u)

-- DEMAND 3: for every n from 4 to 180, every table of n(n - 1)/2 lengths, every list of calls of *mark a sheet* and
-- every shortest tour, each edge of the tour is open after the run that starts from the marks that *fresh marks* left
-- in a buffer for this n.
pub demand_3 :
    (n : ℕ) → least_points ≤ n → n ≤ most_points → (table : List ℕ) → length table ≡ edge_count n → (before : List ℕ) → length before ≡ edge_count n →
    (calls : List Call) (t : List ℕ) → Shortest n (length_of n table) t → (a b : ℕ) → Uses t a b →
    open_in n (steps_of (one_table table) (map marking calls) (fresh_from n before)) a b ≡ true
unfolding open_up_to
demand_3 n some most table whole before sized calls t best a b u =
    ap (opens open_mark)
    (shortest_open n some most (one_table table) whole before sized (map marking calls) table (one_serves whole) t best a b u)
