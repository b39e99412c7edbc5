-- Rows of lengths: where the edges from v stand in the table, how parts of a row join, and what stands after each row.
-- Assumes nothing.
use Prim.Native.Nat.{ℕ, ◌+◌, ◌-◌, ◌*◌, ◌≤◌, ◌<◌}
use mathlib.Core.Path.{◌≡◌, refl, sym, ◌∙◌, ap}
use mathlib.Core.Logic.{◌⊎◌, inl, inr, ⊎_elim}
use mathlib.Core.List.{List}
use native.Mathlib.Nat.{mul-le-mul_right}
use native.Mathlib.Decide.{dec_lt}
use native.Mathlib.Omega.{arith}
use lib.ListN.{length, get_or, set, length-set}
use lib.Seq.{get_or-set_same, get_or-set_other}
use Rattle.lengths.specs.Edge.{tri, place_up}
use Rattle.lengths.specs.asks.Edge.{IsEdgeUp, Placed}
use Rattle.lengths.specs.Table.{length_of}
use Rattle.lengths.specs.asks.Rows.{RowAt, RowFillable, RowPart, RowFilled, RowsFillable, RowsFilled}
use Rattle.lengths.proofs.Edges.{edge_count_tri, tri_row, place_up-sum, place_up_below, place_along}
use Rattle.lengths.proofs.Tables.{length_self, length_up, length_symmetric}

-- parts of a row

pub no_part : (n : ℕ) (table rows : List ℕ) (at v low : ℕ) → RowPart n table rows at v low low rows
no_part n table rows at v low = record { size = refl; each = λ x h g. absurd (omega arith); kept = λ i h. refl }

module _ {n at v low high : ℕ} {table rows r : List ℕ} (p : RowPart n table rows at v low high r) where
  -- the next number is written
  pub part_more : {d : ℕ} → low ≤ high → at + high < length r → d ≡ length_of n table v high
      → RowPart n table rows at v low (high + 1) (set r (at + high) d)
  part_more {d} o h is = record {
    size = length-set r (at + high) d ∙ p.size;
    each = each;
    kept = λ i g. get_or-set_other r (at + high) i d 0 (λ e. outside i e g) ∙ p.kept i (⊎_elim (λ k. inl k) (λ k. inr (omega arith)) g);
  }
    where
      outside : (i : ℕ) → i ≡ at + high → (i < at + low) ⊎ (at + (high + 1) ≤ i) → ⊥
      outside i e = ⊎_elim (λ k. omega arith) (λ k. omega arith)

      each : (x : ℕ) → low ≤ x → x < high + 1 → get_or (set r (at + high) d) (at + x) 0 ≡ length_of n table v x
      each x k g = elim (dec_lt x high) [
        | yes l ↦ get_or-set_other r (at + high) (at + x) d 0 (λ e. omega arith) ∙ p.each x k l
        | no l ↦
            let e : x ≡ high = omega arith in
            ap (λ (y : ℕ). get_or (set r (at + high) d) (at + y) 0) e
            ∙ get_or-set_same r (at + high) d 0 h
            ∙ is
            ∙ ap (length_of n table v) (sym e)
      ]

  -- a part, and then the part behind it
  pub parts_join : {end : ℕ} {s : List ℕ} → low ≤ high → high ≤ end → RowPart n table r at v high end s → RowPart n table rows at v low end s
  parts_join {end} {s} o e q = record {
    size = q.size ∙ p.size;
    each = λ x k g. elim (dec_lt x high) [
      | yes l ↦ q.kept (at + x) (inl (omega arith)) ∙ p.each x k l
      | no l ↦ q.each x (omega arith) g
    ];
    kept = λ i g. q.kept i (⊎_elim (λ k. inl (omega arith)) (λ k. inr k) g) ∙ p.kept i (⊎_elim (λ k. inl k) (λ k. inr (omega arith)) g);
  }

-- the points below v

-- `from` is the place of xv, plus 1, where x is below v, and `step` is n - x
pub record Below (n : ℕ) (table rows : List ℕ) (at v : ℕ) (r : List ℕ) (from step x : ℕ) : Type 0 where
  pub part : RowPart n table rows at v 1 x r
  pub low : 1 ≤ x
  pub high : x ≤ v
  pub here : from + tri (n + 1 - x) ≡ tri n + (v - x)
  pub left : step + x ≡ n

pub below_start : {n at v : ℕ} {table rows : List ℕ} → RowFillable n table rows at v → Below n table rows at v rows (v - 1) (n - 1) 1
below_start {n} {at} {v} f =
    let e : n + 1 - 1 ≡ n = omega arith in
    record { part = no_part n _ _ at v 1; low = omega arith; high = f.point.low; here = omega (arith, ap tri e); left = omega (arith, f.point) }

module _ {n at v from step x : ℕ} {table rows r : List ℕ} (f : RowFillable n table rows at v) (b : Below n table rows at v r from step x) (h : x < v) where
  below_edge : IsEdgeUp n x v
  below_edge = record { low = b.low; up = h; high = f.point.high }

  pub below_place : from ≡ place_up n x v + 1
  below_place = omega (arith, place_up-sum below_edge, b.here)

  pub below_inside : from - 1 < length table
  below_inside = omega (arith, below_place, place_up_below below_edge, f.whole, edge_count_tri n)

  pub below_room : at + x < length r
  below_room = omega (arith, b.part.size, f.room, f.point)

  pub below_more : {d : ℕ} → d ≡ get_or table (from - 1) 0 → Below n table rows at v (set r (at + x) d) (from + (step - 1)) (step - 1) (x + 1)
  below_more is =
      let t : n + 1 - (x + 1) ≡ n - x = omega arith in
      let i : from - 1 ≡ place_up n x v = omega (arith, below_place) in
      record {
        part = part_more b.part b.low below_room (is ∙ ap (λ (j : ℕ). get_or table j 0) i ∙ sym (length_up n table x v h) ∙ length_symmetric n table x v);
        low = omega arith;
        high = omega arith;
        here = omega (arith, b.here, b.left, ap tri t, tri_row n x (omega (arith, f.point)), f.point);
        left = omega (arith, b.left, f.point);
      }

-- the points above v

pub record Above (n : ℕ) (table rows : List ℕ) (at v : ℕ) (r : List ℕ) (i : ℕ) : Type 0 where
  pub part : RowPart n table rows at v (v + 1) (v + 1 + i) r
  pub high : v + i ≤ n

module _ {n at v i first : ℕ} {table rows r : List ℕ} (f : RowFillable n table rows at v) (b : Above n table rows at v r i)
    (p : Placed n v (v + 1) first) (h : i < n - v) where
  there : IsEdgeUp n v (v + 1 + i)
  there = record { low = f.point.low; up = omega arith; high = omega arith }

  pub above_place : first + i ≡ place_up n v (v + 1 + i)
  above_place = place_along i p

  pub above_inside : first + i < length table
  above_inside = omega (arith, above_place, place_up_below there, f.whole, edge_count_tri n)

  pub above_room : at + v + 1 + i < length r
  above_room = omega (arith, b.part.size, f.room, f.point)

  pub above_more : {d : ℕ} → d ≡ get_or table (first + i) 0 → Above n table rows at v (set r (at + v + 1 + i) d) (i + 1)
  above_more {d} is =
      let s : at + v + 1 + i ≡ at + (v + 1 + i) = omega arith in
      let t : v + 1 + (i + 1) ≡ v + 1 + i + 1 = omega arith in
      let here : d ≡ length_of n table v (v + 1 + i) =
      is ∙ ap (λ (j : ℕ). get_or table j 0) above_place ∙ sym (length_up n table v (v + 1 + i) (omega arith)) in
      record {
        part = rw (s, t) (part_more b.part (omega arith) (omega (arith, above_room)) here);
        high = omega arith;
      }

-- the row

module _ {n at v : ℕ} {table rows r : List ℕ} (f : RowFillable n table rows at v) (p : RowPart n table rows at v 1 v r) where
  pub self_room : at + v < length r
  self_room = omega (arith, p.size, f.room, f.point)

  with_self : RowPart n table rows at v 1 (v + 1) (set r (at + v) 0)
  with_self = part_more p f.point.low self_room (sym (length_self n table v))

  pub row_done : {s : List ℕ} → RowPart n table (set r (at + v) 0) at v (v + 1) (n + 1) s → RowFilled n table rows at v s
  row_done {s} q = record {
    size = whole.size;
    row = record { room = omega (arith, whole.size, f.room); each = λ x k. whole.each x k.low (omega (arith, k)) };
    kept = λ i g. whole.kept i (⊎_elim (λ k. inl (omega arith)) (λ k. inr (omega arith)) g);
  }
    where
      whole : RowPart n table rows at v 1 (n + 1) s
      whole = parts_join with_self (omega arith) (omega (arith, f.point)) q

-- the rows of the points below v are written
pub record RowsTo (n : ℕ) (table rows r : List ℕ) (v : ℕ) : Type 0 where
  pub size : length r ≡ length rows
  pub low : 1 ≤ v
  pub high : v ≤ n + 1
  pub below : (u : ℕ) → 1 ≤ u → u < v → RowAt n table r ((n + 1) * u) u

pub rows_start : {n : ℕ} {table rows : List ℕ} → RowsFillable n table rows → RowsTo n table rows rows 1
rows_start f = record { size = refl; low = omega arith; high = omega arith; below = λ u h g. absurd (omega arith) }

module _ {n v at : ℕ} {table rows r : List ℕ} (f : RowsFillable n table rows) (t : RowsTo n table rows r v) (start : at ≡ (n + 1) * v) (h : v ≤ n) where
  next_row_fits : at + (n + 1) ≤ length rows
  next_row_fits =
      let m : v + 1 ≤ n + 1 = omega arith in
      omega (arith, start, mul-le-mul_right (n + 1) m, f.room)

  pub row_fillable : RowFillable n table r at v
  row_fillable = record { few = f.few; whole = f.whole; point = record { low = t.low; high = h }; room = omega (arith, next_row_fits, t.size) }

  pub rows_more : {s : List ℕ} → RowFilled n table r at v s → RowsTo n table rows s (v + 1)
  rows_more {s} g = record {
    size = g.size ∙ t.size;
    low = omega arith;
    high = omega arith;
    below = each;
  }
    where
      earlier : (u : ℕ) → 1 ≤ u → u < v → RowAt n table s ((n + 1) * u) u
      earlier u k l =
          let a : RowAt n table r ((n + 1) * u) u = t.below u k l in
          let m : (n + 1) * (u + 1) ≤ (n + 1) * v = omega (arith, mul-le-mul_right (n + 1) l) in
          record {
            room = omega (arith, a.room, g.size);
            each = λ x i. g.kept ((n + 1) * u + x) (inl (omega (arith, m, start, i.high))) ∙ a.each x i;
          }

      each : (u : ℕ) → 1 ≤ u → u < v + 1 → RowAt n table s ((n + 1) * u) u
      each u k l = elim (dec_lt u v) [
        | yes m ↦ earlier u k m
        | no m ↦ let e : u ≡ v = omega arith in rw (e, ← start) g.row
      ]

pub rows_done : {n v : ℕ} {table rows r : List ℕ} → RowsTo n table rows r v → n < v → RowsFilled n table rows r
rows_done t h = record { size = t.size; all = record { row = λ u p. t.below u p.low (omega (arith, p.high)) } }
