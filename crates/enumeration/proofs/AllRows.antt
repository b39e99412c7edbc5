-- The rows one after another, and the loop of `find_apart`. The numbers written so far and those of the pairs still to
-- come make up the numbers of all pairs; of the row of x come at most n - x pairs, so that there is room for all.
-- Assumes nothing.
use Prim.Native.Nat.{ℕ, zero, suc, ◌+◌, ◌-◌, ◌*◌, ◌≤◌, ◌<◌}
use mathlib.Core.Path.{◌≡◌, refl, sym, ◌∙◌, ap, ap₂}
use mathlib.Core.Bool.{Bool, false}
use mathlib.Core.List.{List, [], ◌++◌, append-nil, append_assoc}
use native.Mathlib.Numerals.{add-one}
use native.Mathlib.Omega.{arith}
use lib.ListN.{length, take, length-append}
use Rattle.lengths.specs.Edge.{Edge, row, rows, edges, tri}
use Rattle.lengths.proofs.Edges.{edges_few, length_row, edge_count_tri, tri-suc}
use Rattle.lengths.specs.Instance.{most_edges}
use Rattle.rules.specs.Pairs.{keep}
use Rattle.rules.proofs.PairLists.{keep_append}
use Rattle.search.proofs.KeptRows.{keep_none, keep_same}
use Rattle.endian.specs.Bytes.{whole32}
use Rattle.enumeration.specs.declared.comparison.Comparison.{Comparison}
use Rattle.enumeration.specs.Find.{numbers_of}
use Rattle.std.specs.Prelude.{Option}
use Rattle.enumeration.specs.asks.Find.{apart_by, unbarred?, barred_in, passes_apart?, unbarred_of, RowToList, RowFound, RowsToList, RowsFound, Found}
use Rattle.enumeration.proofs.Writing.{keep_fewer, numbers_of-append}

-- the search of all rows, for any test

-- rows in which no pair passes the test
pub rows_none : (t : ℕ → ℕ → Bool) (low : ℕ) → ((x z : ℕ) → low ≤ x → x < z → t x z ≡ false) → (x k : ℕ) → low ≤ x → keep t (rows x k) ≡ []
unfolding rows keep
rows_none t low h x zero g = refl
rows_none t low h x (suc k) g =
    keep_append t (row x (suc x) (suc k)) (rows (suc x) k)
    ∙ ap₂ (λ (es fs : List Edge). es ++ fs) (keep_none t x (suc x) (suc k) (λ z above below. h x z g (omega arith))) (rows_none t low h (suc x) k (omega arith))

pub rows_start : {n : ℕ} {found : List ℕ} (t : ℕ → ℕ → Bool) → RowsToList n found → RowsFound n t found found 1 0
unfolding edges
rows_start {n} t a =
    let e : n + 1 - 1 ≡ n = omega arith in
    record {
      from = omega arith;
      within = a.some;
      size = refl;
      looked = omega (arith, ap tri e);
      counted = omega arith;
      written = refl;
    }

module _ (by : Comparison) {t : ℕ → ℕ → Bool} {found₀ found : List ℕ} {x count : ℕ}
    (a : RowsToList by.n found₀) (r : RowsFound by.n t found₀ found x count) where
  all_few : tri by.n ≤ most_edges
  all_few = omega (arith, edge_count_tri by.n, edges_few by.n by.lengths.few)

  -- no pair is left
  pub rows_end : keep t (rows x (by.n - x)) ≡ [] → Found (keep t (edges by.n)) count found
  unfolding numbers_of
  rows_end e = record {
    counted = omega (arith, ap length e, r.counted);
    front =
        sym (append-nil (take (2 * count) found))
        ∙ ap (λ (es : List Edge). take (2 * count) found ++ numbers_of es) (sym e)
        ∙ r.written;
    few = omega (arith, r.looked, all_few);
    room = omega (arith, r.looked, r.size, a.room, edge_count_tri by.n);
  }

  -- no row is left
  pub rows_done : by.n ≤ x → Found (keep t (edges by.n)) count found
  unfolding rows keep
  rows_done h =
      let k : by.n - x ≡ 0 = omega arith in
      rows_end (ap (λ (j : ℕ). keep t (rows x j)) k)

  module _ (h : x < by.n) where
    tri_here : tri (by.n + 1 - x) ≡ tri (by.n + 1 - (x + 1)) + (by.n - x)
    tri_here =
        let e : by.n + 1 - x ≡ suc (by.n - x) = omega arith in
        let f : by.n - x ≡ by.n + 1 - (x + 1) = omega arith in
        omega (arith, ap tri e, tri-suc (by.n - x), ap tri f)

    -- there is room for the pairs of the row
    pub rows_room : (count + (by.n - x) ≤ most_edges) × (2 * (count + (by.n - x)) ≤ length found)
    rows_room = (omega (arith, r.looked, tri_here, all_few), omega (arith, r.looked, tri_here, r.size, a.room, edge_count_tri by.n))

    pub rows_row : RowToList by.n x found count
    rows_row = record { low = r.from; high = h; few = rows_room.0; room = rows_room.1 }

    rows_here : keep t (rows x (by.n - x)) ≡ keep t (row x (suc x) (by.n - x)) ++ keep t (rows (x + 1) (by.n - (x + 1)))
    unfolding rows
    rows_here =
        let k : by.n - x ≡ suc (by.n - (x + 1)) = omega arith in
        ap (λ (j : ℕ). keep t (rows x j)) k
        ∙ keep_append t (row x (suc x) (suc (by.n - (x + 1)))) (rows (suc x) (by.n - (x + 1)))
        ∙ ap₂ (λ (i j : ℕ). keep t (row x (suc x) i) ++ keep t (rows j (by.n - (x + 1)))) (sym k) (sym (add-one x))

    -- the pairs of the row are taken in
    pub rows_on : {m : ℕ} {left : List ℕ} → length left ≡ length found → m ≡ count + length (keep t (row x (suc x) (by.n - x)))
        → take (2 * m) left ≡ take (2 * count) found ++ numbers_of (keep t (row x (suc x) (by.n - x))) → RowsFound by.n t found₀ left (x + 1) m
    rows_on {m} {left} same e w =
        let here = keep t (row x (suc x) (by.n - x)) in
        let rest = keep t (rows (x + 1) (by.n - (x + 1))) in
        record {
          from = omega arith;
          within = omega arith;
          size = same ∙ r.size;
          looked = omega (arith, r.looked, tri_here, keep_fewer t (row x (suc x) (by.n - x)), length_row x (suc x) (by.n - x));
          counted = omega (arith, r.counted, ap length rows_here, length-append here rest);
          written = ap (λ (ys : List ℕ). ys ++ numbers_of rest) w
              ∙ append_assoc (take (2 * count) found) (numbers_of here) (numbers_of rest)
              ∙ ap (λ (ys : List ℕ). take (2 * count) found ++ ys) (sym (numbers_of-append here rest))
              ∙ ap (λ (es : List Edge). take (2 * count) found ++ numbers_of es) (sym rows_here)
              ∙ r.written;
        }

    -- the same by `find_in_row`, where its test is the one for the row
    pub rows_on_row : {barred : Option ℕ} {m : ℕ} {left : List ℕ} → ((z : ℕ) → x < z → unbarred? by.n (whole32 by.table.now) by.legs.now by.bound barred x z ≡ t x z)
        → RowFound by x barred found count m left → RowsFound by.n t found₀ left (x + 1) m
    unfolding unbarred_of
    rows_on_row {barred} {m} {left} agree f =
        let same = keep_same (unbarred? by.n (whole32 by.table.now) by.legs.now by.bound barred) t x (suc x) (by.n - x) (λ z above. agree z (omega arith)) in
        rows_on f.size
        (f.counted ∙ ap (λ (es : List Edge). count + length es) same)
        (f.front ∙ ap (λ (es : List Edge). take (2 * count) found ++ numbers_of es) same)

-- the loop of `find_apart`

pub apart_on : (by : Comparison) (low high : ℕ) {found₀ found : List ℕ} {x count : ℕ} {barred : Option ℕ} {m : ℕ} {left : List ℕ}
    → RowsToList by.n found₀ → RowsFound by.n (apart_by by low high) found₀ found x count → x < by.n → barred ≡ barred_in low high x
    → RowFound by x barred found count m left → RowsFound by.n (apart_by by low high) found₀ left (x + 1) m
unfolding passes_apart?
apart_on by low high {x = x} a r h e f = rows_on_row by a r h (λ z above. ap (λ (b : Option ℕ). unbarred? by.n (whole32 by.table.now) by.legs.now by.bound b x z) e) f
