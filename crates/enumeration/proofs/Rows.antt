-- The loop of `find_in_row`. Each pair of a row is written at the place after the pairs that stand, and the next one is
-- written over it where it does not stand itself. There are never more pairs that stand than pairs that were looked at,
-- so that the place is in the array. Assumes nothing.
use Prim.Native.Nat.{ℕ, suc, ◌+◌, ◌-◌, ◌*◌, ◌^◌, ◌≤◌, ◌<◌}
use mathlib.Core.Path.{◌≡◌, refl, sym, ◌∙◌, ap, ap₂}
use mathlib.Core.Bool.{Bool, false, not, ◌&&◌}
use mathlib.Core.List.{List, ◌∷◌, ◌++◌, append-nil}
use native.Mathlib.Omega.{arith}
use lib.Dec.{eqb, leb}
use lib.ListN.{length, get_or, take, set, length-set}
use borrow.Author.Tests.{ne_eqb, lt-leb}
use Rattle.lengths.specs.Edge.{Edge, edge, IsEdge, row, place, place_up}
use Rattle.lengths.specs.asks.Edge.{IsEdgeUp}
use Rattle.lengths.specs.Table.{length_of}
use Rattle.lengths.proofs.Edges.{place_up_add, edge_count_tri, place_up_lem, place_up_below, edges_fit}
use Rattle.lengths.proofs.Tables.{length_up, length_small}
use Rattle.lengths.specs.Instance.{most_edges, most_length}
use Rattle.rules.specs.asks.Legs.{far}
use Rattle.rules.specs.Pairs.{keep}
use Rattle.search.specs.asks.Pairs.{passes?}
use Rattle.search.proofs.KeptRows.{keep_none}
use Rattle.endian.specs.Bytes.{whole32}
use Rattle.enumeration.specs.declared.comparison.Comparison.{Comparison}
use Rattle.enumeration.specs.Find.{numbers_of}
use Rattle.std.specs.Prelude.{Option, Some, None, unwrap_or}
use Rattle.enumeration.specs.asks.Find.{row_by, ones, barred?, unbarred?, unbarred_of, RowToList, RowFound}
use Rattle.enumeration.proofs.Writing.{ones_small, count_pair, write_pair}

-- a row whose leg is FAR has no pair that stands

pub row_far : (by : Comparison) {x : ℕ} (barred : Option ℕ) {found : List ℕ} {before : ℕ} → RowToList by.n x found before → get_or by.legs.now x 0 ≡ far
    → RowFound by x barred found before before found
unfolding unbarred_of unbarred? passes? numbers_of
row_far by {x} barred {found} {before} a g =
    let none = keep_none (unbarred? by.n (whole32 by.table.now) by.legs.now by.bound barred) x (suc x) (by.n - x) (λ z low high. fails z) in
    record {
      counted = omega (arith, ap length none);
      front = sym (append-nil (take (2 * before) found)) ∙ ap (λ (es : List Edge). take (2 * before) found ++ numbers_of es) (sym none);
      size = refl;
    }
  where
    fails : (z : ℕ) → leb (get_or by.legs.now x 0 + most_length + get_or by.legs.now z 0) (length_of by.n (whole32 by.table.now) x z + by.bound) && not (barred? barred z) ≡ false
    fails z =
        ap (λ (t : Bool). t && not (barred? barred z))
        (lt-leb (get_or by.legs.now x 0 + most_length + get_or by.legs.now z 0) (length_of by.n (whole32 by.table.now) x z + by.bound) (omega (arith, length_small by.lengths x z, by.bounded.tight)))

-- the loop of `find_in_row`

-- no point has the number 0
skip_of : (barred : Option ℕ) (z : ℕ) → 1 ≤ z → eqb z (unwrap_or barred 0) ≡ barred? barred z
skip_of None z low = ne_eqb z 0 (λ e. omega arith)
skip_of (Some w) z low = refl

-- the pair of x with x + 1 + i is next; its length stands at the place first + i
pub record Rowing (by : Comparison) (x : ℕ) (barred : Option ℕ) (found₀ : List ℕ) (before cost first : ℕ) (found : List ℕ) (count i : ℕ) : Type 0 where
  pub asked : RowToList by.n x found₀ before
  pub is_cost : cost ≡ get_or by.legs.now x 0 + most_length
  pub is_first : first ≡ place_up by.n x (x + 1)
  pub within : i ≤ by.n - x
  pub size : length found ≡ length found₀
  pub looked : count ≤ before + i
  pub counted : count + length (keep (unbarred? by.n (whole32 by.table.now) by.legs.now by.bound barred) (row x (x + 1 + i) (by.n - x - i))) ≡ before + length (row_by by x barred)
  pub written : take (2 * count) found ++ numbers_of (keep (unbarred? by.n (whole32 by.table.now) by.legs.now by.bound barred) (row x (x + 1 + i) (by.n - x - i)))
      ≡ take (2 * before) found₀ ++ numbers_of (row_by by x barred)

pub row_edge : {n x : ℕ} {found : List ℕ} {before : ℕ} → RowToList n x found before → IsEdge n x (x + 1)
row_edge a = record {
  first = record { low = a.low; high = omega (arith, a.high) };
  second = record { low = omega arith; high = omega (arith, a.high) };
  apart = λ e. omega arith;
}

pub rowing_start : (by : Comparison) {x : ℕ} (barred : Option ℕ) {found : List ℕ} {before first : ℕ} → RowToList by.n x found before → first ≡ place by.n x (x + 1)
    → Rowing by x barred found before (get_or by.legs.now x 0 + most_length) first found before 0
unfolding unbarred_of
rowing_start by {x} barred {found} {before} {first} a p =
    let f : x + 1 + 0 ≡ suc x = omega arith in
    let k : by.n - x - 0 ≡ by.n - x = omega arith in
    let e = ap₂ (λ (i j : ℕ). keep (unbarred? by.n (whole32 by.table.now) by.legs.now by.bound barred) (row x i j)) f k in
    record {
      asked = a;
      is_cost = refl;
      is_first = p ∙ place_up_lem by.n x (x + 1) (omega arith);
      within = omega arith;
      size = refl;
      looked = omega arith;
      counted = ap (λ (es : List Edge). before + length es) e;
      written = ap (λ (es : List Edge). take (2 * before) found ++ numbers_of es) e;
    }

module _ {by : Comparison} {x : ℕ} {barred : Option ℕ} {found₀ : List ℕ} {before cost first : ℕ} {found : List ℕ} {count i : ℕ}
    (r : Rowing by x barred found₀ before cost first found count i) where
  -- the end of the row
  pub rowing_end : by.n - x ≤ i → RowFound by x barred found₀ before count found
  unfolding row keep numbers_of
  rowing_end h =
      let k : by.n - x - i ≡ 0 = omega arith in
      let e = ap (λ (j : ℕ). keep (unbarred? by.n (whole32 by.table.now) by.legs.now by.bound barred) (row x (x + 1 + i) j)) k in
      record {
        counted = omega (arith, ap length e, r.counted);
        front =
            sym (append-nil (take (2 * count) found))
            ∙ ap (λ (es : List Edge). take (2 * count) found ++ numbers_of es) (sym e)
            ∙ r.written;
        size = r.size;
      }

  module _ (h : i < by.n - x) where
    edge_here : IsEdgeUp by.n x (x + 1 + i)
    edge_here = record { low = r.asked.low; up = omega arith; high = omega arith }

    place_here : first + i ≡ place_up by.n x (x + 1 + i)
    place_here = omega (arith, r.is_first, place_up_add by.n x (x + 1) i (omega arith))

    pub in_table : first + i < length (whole32 by.table.now)
    in_table = omega (arith, place_here, place_up_below edge_here, edge_count_tri by.n, by.lengths.whole)

    pub place_small : first + i < 2 ^ 32
    place_small = omega (arith, place_here, place_up_below edge_here, edges_fit {n = by.n} (omega (arith, by.lengths.few)))

    -- there is room for the pair, and its place is small
    pub has_room : (count < most_edges) × (2 * count + 1 < length found)
    has_room = (omega (arith, r.looked, r.asked.few), omega (arith, r.looked, r.asked.room, r.size))

    test_here : leb (cost + get_or by.legs.now (x + 1 + i) 0) (get_or (whole32 by.table.now) (first + i) 0 + by.bound) && not (eqb (x + 1 + i) (unwrap_or barred 0)) ≡ unbarred? by.n (whole32 by.table.now) by.legs.now by.bound barred x (x + 1 + i)
    unfolding unbarred? passes?
    test_here =
        ap (λ (s : Bool). leb (cost + get_or by.legs.now (x + 1 + i) 0) (get_or (whole32 by.table.now) (first + i) 0 + by.bound) && not s) (skip_of barred (x + 1 + i) (omega arith))
        ∙ ap₂ (λ (p q : ℕ). leb (p + get_or by.legs.now (x + 1 + i) 0) (q + by.bound) && not (barred? barred (x + 1 + i)))
        r.is_cost
        (ap (λ (j : ℕ). get_or (whole32 by.table.now) j 0) place_here ∙ sym (length_up by.n (whole32 by.table.now) x (x + 1 + i) edge_here.up))

    row_here : row x (x + 1 + i) (by.n - x - i) ≡ edge x (x + 1 + i) ∷ row x (x + 1 + (i + 1)) (by.n - x - (i + 1))
    unfolding row
    row_here =
        let k : by.n - x - i ≡ suc (by.n - x - (i + 1)) = omega arith in
        let f : suc (x + 1 + i) ≡ x + 1 + (i + 1) = omega arith in
        ap (row x (x + 1 + i)) k ∙ ap (λ (j : ℕ). edge x (x + 1 + i) ∷ row x j (by.n - x - (i + 1))) f

    pub one_more : {m : ℕ} (skip d : ℕ) → m ≡ ones (leb (cost + get_or by.legs.now (x + 1 + i) 0) (d + by.bound) && not (eqb (x + 1 + i) skip)) → m ≤ 1
    one_more skip d e = omega (arith, ones_small (leb (cost + get_or by.legs.now (x + 1 + i) 0) (d + by.bound) && not (eqb (x + 1 + i) skip)))

    pub rowing_on : {m d skip : ℕ} → skip ≡ unwrap_or barred 0 → d ≡ get_or (whole32 by.table.now) (first + i) 0 → m ≡ ones (leb (cost + get_or by.legs.now (x + 1 + i) 0) (d + by.bound) && not (eqb (x + 1 + i) skip))
        → Rowing by x barred found₀ before cost first (set (set found (2 * count) x) (2 * count + 1) (x + 1 + i)) (count + m) (i + 1)
    rowing_on {m} bars is e =
        let t = unbarred? by.n (whole32 by.table.now) by.legs.now by.bound barred in
        let z = x + 1 + i in
        let rest = row x (x + 1 + (i + 1)) (by.n - x - (i + 1)) in
        let f : m ≡ ones (t x z) = e ∙ ap₂ (λ (l b : ℕ). ones (leb (cost + get_or by.legs.now z 0) (l + by.bound) && not (eqb z b))) is bars ∙ ap ones test_here in
        record {
          asked = r.asked;
          is_cost = r.is_cost;
          is_first = r.is_first;
          within = omega arith;
          size = length-set (set found (2 * count) x) (2 * count + 1) z ∙ length-set found (2 * count) x ∙ r.size;
          looked = omega (arith, ones_small (t x z), r.looked);
          counted = ap (λ (j : ℕ). count + j + length (keep t rest)) f
              ∙ count_pair t rest x z count (t x z) refl
              ∙ ap (λ (es : List Edge). count + length (keep t es)) (sym row_here)
              ∙ r.counted;
          written = ap (λ (j : ℕ). take (2 * (count + j)) (set (set found (2 * count) x) (2 * count + 1) z) ++ numbers_of (keep t rest)) f
              ∙ write_pair t rest x z count found has_room.1 (t x z) refl
              ∙ ap (λ (es : List Edge). take (2 * count) found ++ numbers_of (keep t es)) (sym row_here)
              ∙ r.written;
        }
