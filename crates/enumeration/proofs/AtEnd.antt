-- The pairs at an end of K's edge, whose other end is `other`. The row of a point below `other` has one pair that may
-- stand, the one with `other`; in the row of `other` every pair that passes stands; and the rows above it have none.
-- Assumes nothing.
use Prim.Native.Nat.{ℕ, suc, ◌+◌, ◌-◌, ◌*◌, ◌≤◌, ◌<◌}
use mathlib.Core.Path.{◌≡◌, refl, sym, ◌∙◌, ap, subst}
use mathlib.Core.Bool.{false, not, ◌&&◌}
use mathlib.Core.List.{List, [], ◌∷◌, ◌++◌, append-nil}
use native.Mathlib.Omega.{arith}
use lib.Dec.{eqb, leb}
use lib.ListN.{length, get_or, take, set, length-set}
use borrow.Author.Tests.{eq-eqb, ne_eqb}
use Rattle.lists.proofs.Bools.{and_no}
use Rattle.lengths.specs.Edge.{Edge, edge, row, edges}
use Rattle.lengths.specs.Instance.{most_edges, most_length}
use Rattle.lengths.specs.Table.{length_of}
use Rattle.lengths.specs.asks.Table.{Spans, LengthIs}
use Rattle.sets.specs.Neighbours.{either?}
use Rattle.rules.specs.Pairs.{keep}
use Rattle.search.specs.asks.Pairs.{passes?}
use Rattle.search.proofs.KeptRows.{keep_only}
use Rattle.endian.specs.Bytes.{whole32}
use Rattle.enumeration.specs.declared.comparison.Comparison.{Comparison}
use Rattle.enumeration.specs.Find.{numbers_of}
use Rattle.std.specs.Prelude.{None}
use Rattle.enumeration.specs.asks.Find.{end_by, ones, unbarred?, at_end?, RowFound, RowsFound, EndAsked, Found}
use Rattle.enumeration.proofs.Writing.{ones_small, count_pair, write_pair}
use Rattle.enumeration.proofs.AllRows.{rows_none, rows_start, rows_end, rows_room, rows_on, rows_on_row}

-- the test

module _ (by : Comparison) (other : ℕ) where
  -- a pair without `other`
  end_no : (x z : ℕ) → (other ≡ x → ⊥) → (other ≡ z → ⊥) → end_by by other x z ≡ false
  unfolding at_end? either?
  end_no x z h g = rw (ne_eqb other x h, ne_eqb other z g) (and_no (passes? by.n (whole32 by.table.now) by.legs.now by.bound x z))

  -- a pair of the row of `other`
  end_row : (z : ℕ) → other < z → unbarred? by.n (whole32 by.table.now) by.legs.now by.bound None other z ≡ end_by by other other z
  unfolding at_end? either? unbarred?
  end_row z h = rw (eq-eqb other other refl)

  -- a pair with `other` above, as `find_below` tests it
  end_below : (x len : ℕ) → x < other → len ≡ length_of by.n (whole32 by.table.now) x other
      → leb (get_or by.legs.now other 0 + most_length + get_or by.legs.now x 0) (len + by.bound) && not (eqb other 0) ≡ end_by by other x other
  unfolding at_end? either? passes?
  end_below x len h e =
      let c : get_or by.legs.now other 0 + most_length + get_or by.legs.now x 0 ≡ get_or by.legs.now x 0 + most_length + get_or by.legs.now other 0 = omega arith in
      rw (c, e, ne_eqb other 0 (λ e. omega arith), ne_eqb other x (λ e. omega arith), eq-eqb other other refl)

-- the loop of `find_below`

-- the pair of x with `other` is next
pub record Below (by : Comparison) (other : ℕ) (found₀ : List ℕ) (cost : ℕ) (found : List ℕ) (count x : ℕ) : Type 0 where
  pub asked : EndAsked by.n other found₀
  pub is_cost : cost ≡ get_or by.legs.now other 0 + most_length
  pub rows : RowsFound by.n (end_by by other) found₀ found x count
  pub below : x ≤ other

pub below_start : (by : Comparison) {other : ℕ} {found : List ℕ} → EndAsked by.n other found
    → Below by other found (get_or by.legs.now other 0 + most_length) found 0 1
below_start by {other} a = record {
  asked = a;
  is_cost = refl;
  rows = rows_start (end_by by other) a.asked;
  below = a.point.low;
}

module _ {by : Comparison} {other : ℕ} {found₀ : List ℕ} {cost : ℕ} {found : List ℕ} {count x : ℕ}
    (r : Below by other found₀ cost found count x) where
  pub below_end : other ≤ x → RowsFound by.n (end_by by other) found₀ found other count
  below_end h =
      let e : x ≡ other = omega (arith, r.below) in
      subst (λ (i : ℕ). RowsFound by.n (end_by by other) found₀ found i count) e r.rows

  module _ (h : x < other) where
    inside : x < by.n
    inside = omega (arith, r.asked.point.high)

    pub below_spans : Spans by.n (whole32 by.table.now) x other
    below_spans = record {
      first = record { low = r.rows.from; high = omega (arith, inside) };
      second = r.asked.point;
      whole = by.lengths.whole;
    }

    pub below_room : (count < most_edges) × (2 * count + 1 < length found)
    below_room =
        let room = rows_room by r.asked.asked r.rows inside in
        (omega (arith, room, inside), omega (arith, room, inside))

    pub below_more : {m len : ℕ} → LengthIs by.n (whole32 by.table.now) x other len → m ≡ ones (leb (cost + get_or by.legs.now x 0) (len + by.bound) && not (eqb other 0)) → m ≤ 1
    below_more {m} {len} l e = omega (arith, ones_small (leb (cost + get_or by.legs.now x 0) (len + by.bound) && not (eqb other 0)))

    row_only : keep (end_by by other) (row x (suc x) (by.n - x)) ≡ keep (end_by by other) (edge x other ∷ [])
    row_only =
        keep_only (end_by by other) x other
        (λ z g. end_no by other x z (λ e. omega arith) (λ e. g (sym e)))
        (suc x) (by.n - x) (omega arith) (omega (arith, r.asked.point.high))

    pub below_on : {m len : ℕ} → LengthIs by.n (whole32 by.table.now) x other len → m ≡ ones (leb (cost + get_or by.legs.now x 0) (len + by.bound) && not (eqb other 0))
        → Below by other found₀ cost (set (set found (2 * count) x) (2 * count + 1) other) (count + m) (x + 1)
    unfolding keep numbers_of
    below_on {m} {len} l e =
        let t = end_by by other in
        let left = set (set found (2 * count) x) (2 * count + 1) other in
        let f : m ≡ ones (t x other) =
        e
        ∙ ap (λ (c : ℕ). ones (leb (c + get_or by.legs.now x 0) (len + by.bound) && not (eqb other 0))) r.is_cost
        ∙ ap ones (end_below by other x len h l.at)
        in
        record {
          asked = r.asked;
          is_cost = r.is_cost;
          rows = rows_on by r.asked.asked r.rows inside
              (length-set (set found (2 * count) x) (2 * count + 1) other ∙ length-set found (2 * count) x)
              (omega (arith, count_pair t [] x other count (t x other) refl, ap length row_only))
              (ap (λ (j : ℕ). take (2 * (count + j)) left) f
              ∙ sym (append-nil (take (2 * (count + ones (t x other))) left))
              ∙ write_pair t [] x other count found below_room.1 (t x other) refl
              ∙ ap (λ (es : List Edge). take (2 * count) found ++ numbers_of es) (sym row_only));
          below = omega arith;
        }

-- the row of `other` and the rows above it

module _ (by : Comparison) {other : ℕ} {found₀ found : List ℕ} {count : ℕ}
    (a : EndAsked by.n other found₀) (r : RowsFound by.n (end_by by other) found₀ found other count) where
  pub end_done : {m : ℕ} {left : List ℕ} → other < by.n → RowFound by other None found count m left
      → Found (keep (end_by by other) (edges by.n)) m left
  end_done h f =
      rows_end by a.asked (rows_on_row by a.asked r h (end_row by other) f)
      (rows_none (end_by by other) (other + 1) (λ x z low up. end_no by other x z (λ e. omega arith) (λ e. omega arith))
      (other + 1) (by.n - (other + 1)) (omega arith))
