-- The search over the rows: the first point of a row that fits is its first feasible pair, and rows of points that are
-- no candidates have no feasible pair, so that the first feasible pair after xy is found row by row. One record for the
-- loop, and one lemma for each way on and out. Assumes nothing.
use Prim.Native.Nat.{ℕ, zero, suc, ◌+◌, ◌-◌, ◌≤◌, ◌<◌}
use mathlib.Core.Path.{◌≡◌, refl, sym, ◌∙◌, ap, ap₂}
use mathlib.Core.Bool.{Bool, true, false, not, ◌&&◌}
use mathlib.Core.List.{List, ◌∷◌, ◌++◌}
use native.Mathlib.Omega.{arith}
use native.Mathlib.Numerals.{add-one}
use lib.ListN.{get_or}
use Rattle.endian.specs.Bytes.{whole32}
use Rattle.lengths.specs.Edge.{Edge, edge, Point, row, rows}
use Rattle.lengths.specs.Instance.{most_points}
use Rattle.lengths.specs.Table.{length_of, Lengths}
use Rattle.rules.specs.PairTest.{feasible?}
use Rattle.sets.specs.Neighbours.{neighbours_of, within?, beyond}
use Rattle.search.specs.asks.Candidates.{candidate?}
use Rattle.lists.specs.FirstFrom.{first_from}
use Rattle.sets.specs.Shape.{shuts?, shape?}
use Rattle.rules.specs.Pairs.{keep}
use Rattle.rules.specs.asks.Pairs.{pairs_after, feasible_after}
use Rattle.search.specs.asks.Split.{Bounded, Prepared}
use Rattle.sets.specs.asks.Stored.{edge_list}
use Rattle.search.specs.asks.Pairs.{first_in, passes?, allowed?, fits?, fitting, first_of, Place, NextPairOf}
use Rattle.search.specs.declared.pairs.Search.{Search}
use Rattle.sets.specs.declared.neighbours.Neighbours.{Neighbours}
use Rattle.std.specs.Prelude.{Option, Some, None}
use Rattle.lists.proofs.FirstFrom.{first_from_yes, first_from_no, first_from_low, first_from_found}
use Rattle.lists.proofs.Bools.{and_regroup}
use Rattle.search.proofs.KeptRows.{keep_none, keep_skip}
use Rattle.rules.proofs.PairLists.{pairs_after_end, keep_yes, keep_append, rows_after}
use Rattle.search.proofs.RowSearch.{far_row_fails}
use Rattle.search.proofs.OneComparison.{feasible_passes}
use Rattle.search.proofs.FirstIn.{found_in, found_below, missed_in}

-- a pair is feasible exactly when it fits
feasible_fits : {n : ℕ} {out table : List ℕ} {open? : ℕ → ℕ → Bool} {K : List Edge} {c : ℕ} {legs : List ℕ} {bound : ℕ} {centre : Neighbours}
    → Lengths n out → Lengths n table → Prepared n (length_of n out) (length_of n table) open? K c legs bound → centre ≡ neighbours_of K c → (x y : ℕ) → Point n x → Point n y
    → feasible? n (length_of n out) (length_of n table) open? K c x y ≡ fits? n table legs bound centre K c x y
unfolding fits? allowed? shape?
feasible_fits {n} {out} {table} {open?} {K} {c} {legs} {bound} {centre} f h p own x y px py =
    feasible_passes f h p x y px py
    ∙ and_regroup (passes? n table legs bound x y) (within? (neighbours_of K c) x y) (not (shuts? n K x y (beyond (neighbours_of K x) c) (beyond (neighbours_of K y) c)))
    ∙ rw own

-- rows of points that are no candidates

module _ {n : ℕ} {out table : List ℕ} {open? : ℕ → ℕ → Bool} {K : List Edge} {c : ℕ} {legs : List ℕ} {bound : ℕ}
    (taken : Lengths n out) (lengths : Lengths n table) (bounded : Bounded legs bound) (p : Prepared n (length_of n out) (length_of n table) open? K c legs bound) where
  -- the row of a point that is no candidate has no feasible pair
  row_empty : (w : ℕ) → 1 ≤ w → w ≤ n → candidate? legs w ≡ false
      → feasible_after n (length_of n out) (length_of n table) open? K c w w ≡ feasible_after n (length_of n out) (length_of n table) open? K c (suc w) (suc w)
  unfolding feasible_after pairs_after
  row_empty w low high far =
      keep_append test (row w (suc w) (n - w)) (rows (suc w) (n - suc w))
      ∙ ap (λ (es : List Edge). es ++ keep test (rows (suc w) (n - suc w))) (keep_none test w (suc w) (n - w) none)
      ∙ ap (keep test) (rows_after n (suc w))
    where
      test : ℕ → ℕ → Bool
      test = feasible? n (length_of n out) (length_of n table) open? K c

      none : (i : ℕ) → suc w ≤ i → i < suc w + (n - w) → feasible? n (length_of n out) (length_of n table) open? K c w i ≡ false
      none i g g' =
          feasible_passes taken lengths p w i record { low = low; high = high } record { low = omega arith; high = omega arith }
          ∙ ap (λ (t : Bool). t && shape? n K c w i) (far_row_fails lengths bounded w i far)

  -- so the search may go on at the first candidate
  rows_skip : (w k : ℕ) → 1 ≤ w → w + k ≡ n + 1
      → feasible_after n (length_of n out) (length_of n table) open? K c (first_from (candidate? legs) w k) (first_from (candidate? legs) w k) ≡ feasible_after n (length_of n out) (length_of n table) open? K c w w
  unfolding first_from
  rows_skip w zero h e = refl
  rows_skip w (suc k) h e = go (candidate? legs w) refl (rows_skip (suc w) k (omega arith) (omega arith))
    where
      go : (t : Bool) → candidate? legs w ≡ t
          → feasible_after n (length_of n out) (length_of n table) open? K c (first_from (candidate? legs) (suc w) k) (first_from (candidate? legs) (suc w) k) ≡ feasible_after n (length_of n out) (length_of n table) open? K c (suc w) (suc w)
          → feasible_after n (length_of n out) (length_of n table) open? K c (first_from (candidate? legs) w (suc k)) (first_from (candidate? legs) w (suc k)) ≡ feasible_after n (length_of n out) (length_of n table) open? K c w w
      go true f ih = ap (λ (i : ℕ). feasible_after n (length_of n out) (length_of n table) open? K c i i) (first_from_yes (candidate? legs) w k f)
      go false f ih =
          ap (λ (i : ℕ). feasible_after n (length_of n out) (length_of n table) open? K c i i) (first_from_no (candidate? legs) w k f) ∙ ih ∙ sym (row_empty w h (omega arith) f)

-- next_pair: ab is the last pair passed, or a = b stands before the row of a; the rows end behind n

pub record Walking (by : Search) (x y a b : ℕ) : Type 0 where
  pub asked : Place by x y
  pub low : 1 ≤ a
  pub up : a ≤ b
  pub high : a < by.n → b ≤ by.n
  pub same : (out : List ℕ) (open? : ℕ → ℕ → Bool) → Lengths by.n out → Prepared by.n (length_of by.n out) (length_of by.n (whole32 by.table.now)) open? (edge_list by.k) by.c by.legs.now by.bound → by.centre ≡ neighbours_of (edge_list by.k) by.c
      → feasible_after by.n (length_of by.n out) (length_of by.n (whole32 by.table.now)) open? (edge_list by.k) by.c a b ≡ feasible_after by.n (length_of by.n out) (length_of by.n (whole32 by.table.now)) open? (edge_list by.k) by.c x y

pub walk_start : {by : Search} {x y : ℕ}
    → Place by x y → Walking by x y x y
walk_start s = record { asked = s; low = s.low; up = s.up; high = λ h. s.high; same = λ out open? l p q. refl }

module _ {by : Search} {x y a b : ℕ}
    (w : Walking by x y a b) (more : a < by.n) where
  walk_within : b ≤ by.n
  walk_within = w.high more

  -- the row of a may be searched
  pub walk_asked : Place by a b
  walk_asked = record { low = w.low; up = w.up; high = walk_within }

  pub walk_rank : get_or by.rank.now (a + 1) 0 ≤ most_points
  walk_rank = omega (arith, by.listed.inside (a + 1) (omega arith) (omega arith), by.lengths.few)

  -- the row of the next candidate
  walk_next : get_or by.candidates.now (get_or by.rank.now (a + 1) 0) 0 ≡ first_from (candidate? by.legs.now) (suc a) (by.n - a)
  walk_next =
      let e : by.n + 1 - (a + 1) ≡ by.n - a = omega arith in
      by.listed.first (a + 1) (omega arith) (omega arith) ∙ ap₂ (first_from (candidate? by.legs.now)) (add-one a) e

  pub walk_rises : a < get_or by.candidates.now (get_or by.rank.now (a + 1) 0) 0
  walk_rises = omega (arith, walk_next, first_from_low (candidate? by.legs.now) (suc a) (by.n - a))

  module _ (z : ℕ) (found : z ≡ first_from (fitting by a) (suc b) (by.n - b)) where
    module _ (out : List ℕ) (open? : ℕ → ℕ → Bool) (taken : Lengths by.n out) (p : Prepared by.n (length_of by.n out) (length_of by.n (whole32 by.table.now)) open? (edge_list by.k) by.c by.legs.now by.bound) (q : by.centre ≡ neighbours_of (edge_list by.k) by.c) where
      walk_feasible : (i : ℕ) → b < i → i ≤ by.n → feasible? by.n (length_of by.n out) (length_of by.n (whole32 by.table.now)) open? (edge_list by.k) by.c a i ≡ fitting by a i
      walk_feasible i h g = feasible_fits taken by.lengths p q a i record { low = w.low; high = omega arith } record { low = omega arith; high = g }

      -- What is left after ab is the row of a from b + 1 on, then the rows above. A point of the row that does not fit
      -- makes no feasible pair with a, so that the row may be entered at the first point z that fits:
      -- nothing kept is lost.
      walk_skip : feasible_after by.n (length_of by.n out) (length_of by.n (whole32 by.table.now)) open? (edge_list by.k) by.c a b
          ≡ keep (feasible? by.n (length_of by.n out) (length_of by.n (whole32 by.table.now)) open? (edge_list by.k) by.c) (row a z (by.n + 1 - z) ++ rows (suc a) (by.n - suc a))
      unfolding feasible_after pairs_after
      walk_skip =
          let t = feasible? by.n (length_of by.n out) (length_of by.n (whole32 by.table.now)) open? (edge_list by.k) by.c in
          let e : suc b + (by.n - b) - first_from (fitting by a) (suc b) (by.n - b) ≡ by.n + 1 - z = omega (arith, walk_within) in
          keep_append t (row a (suc b) (by.n - b)) (rows (suc a) (by.n - suc a))
          ∙ ap (λ (es : List Edge). es ++ keep t (rows (suc a) (by.n - suc a)))
          (keep_skip (fitting by a) t a (suc b) (by.n - b) (λ i h g f. walk_feasible i h (omega (arith, walk_within)) ∙ f) ∙ ap₂ (λ (i j : ℕ). keep t (row a i j)) (sym found) e)
          ∙ sym (keep_append t (row a z (by.n + 1 - z)) (rows (suc a) (by.n - suc a)))

      walk_fits : z ≤ by.n → feasible? by.n (length_of by.n out) (length_of by.n (whole32 by.table.now)) open? (edge_list by.k) by.c a z ≡ true
      walk_fits h =
          walk_feasible z (omega (arith, first_from_low (fitting by a) (suc b) (by.n - b))) h
          ∙ ap (fitting by a) found
          ∙ first_from_found (fitting by a) (suc b) (by.n - b) (omega (arith, walk_within))

      walk_at : z ≤ by.n → feasible_after by.n (length_of by.n out) (length_of by.n (whole32 by.table.now)) open? (edge_list by.k) by.c a b ≡ keep (feasible? by.n (length_of by.n out) (length_of by.n (whole32 by.table.now)) open? (edge_list by.k) by.c) (edge a z ∷ pairs_after by.n a z)
      unfolding pairs_after row
      walk_at h =
          let e : by.n + 1 - z ≡ suc (by.n - z) = omega arith in
          walk_skip
          ∙ ap (λ (i : ℕ). keep (feasible? by.n (length_of by.n out) (length_of by.n (whole32 by.table.now)) open? (edge_list by.k) by.c) (row a z i ++ rows (suc a) (by.n - suc a))) e

    -- the first point that fits is the next pair
    walk_first : z ≤ by.n → NextPairOf by x y (Some (a, z))
    unfolding first_of
    walk_first h = record {
      first = λ out open? l p q.
          let t = feasible? by.n (length_of by.n out) (length_of by.n (whole32 by.table.now)) open? (edge_list by.k) by.c in
          sym (ap first_of (sym (w.same out open? l p q) ∙ walk_at out open? l p q h ∙ keep_yes t a z (pairs_after by.n a z) (walk_fits out open? l p q h)));
    }

    -- the row is done: the rows up to the next candidate have no feasible pair
    walk_done : by.n < z → (out : List ℕ) (open? : ℕ → ℕ → Bool) (l : Lengths by.n out) (p : Prepared by.n (length_of by.n out) (length_of by.n (whole32 by.table.now)) open? (edge_list by.k) by.c by.legs.now by.bound) (q : by.centre ≡ neighbours_of (edge_list by.k) by.c)
        → feasible_after by.n (length_of by.n out) (length_of by.n (whole32 by.table.now)) open? (edge_list by.k) by.c (suc a) (suc a) ≡ feasible_after by.n (length_of by.n out) (length_of by.n (whole32 by.table.now)) open? (edge_list by.k) by.c a b
    unfolding feasible_after row pairs_after
    walk_done h out open? l p q =
        let t = feasible? by.n (length_of by.n out) (length_of by.n (whole32 by.table.now)) open? (edge_list by.k) by.c in
        let e : by.n + 1 - z ≡ 0 = omega arith in
        ap (keep t) (sym (rows_after by.n (suc a)))
        ∙ ap (λ (i : ℕ). keep t (row a z i ++ rows (suc a) (by.n - suc a))) (sym e)
        ∙ sym (walk_skip out open? l p q)

    walk_next_row : by.n < z → Walking by x y (get_or by.candidates.now (get_or by.rank.now (a + 1) 0) 0) (get_or by.candidates.now (get_or by.rank.now (a + 1) 0) 0)
    walk_next_row h =
        record {
          asked = w.asked;
          low = omega (arith, walk_rises);
          up = omega arith;
          high = λ g. omega arith;
          same = λ out open? l p q.
              ap (λ (i : ℕ). feasible_after by.n (length_of by.n out) (length_of by.n (whole32 by.table.now)) open? (edge_list by.k) by.c i i) walk_next
              ∙ rows_skip l by.lengths by.bounded p (suc a) (by.n - a) (omega arith) (omega arith)
              ∙ walk_done h out open? l p q
              ∙ w.same out open? l p q;
        }

  -- what the search in the row of a answers
  module _ {r : Option ℕ} (found : r ≡ first_in (fitting by a) (suc b) (by.n - b)) where
    pub walk_found : {z : ℕ} → r ≡ Some z → NextPairOf by x y (Some (a, z))
    walk_found {z} e =
        let t = fitting by a in
        walk_first z (found_in t (suc b) (by.n - b) z (sym e ∙ found)) (omega (arith, found_below t (suc b) (by.n - b) z (sym e ∙ found), walk_within))

    pub walk_row : r ≡ None → Walking by x y (get_or by.candidates.now (get_or by.rank.now (a + 1) 0) 0) (get_or by.candidates.now (get_or by.rank.now (a + 1) 0) 0)
    walk_row e =
        let t = fitting by a in
        walk_next_row (first_from t (suc b) (by.n - b)) refl (omega (arith, missed_in t (suc b) (by.n - b) (sym e ∙ found), walk_within))

pub walk_end : {by : Search} {x y a b : ℕ}
    → Walking by x y a b → by.n ≤ a → NextPairOf by x y None
unfolding first_of feasible_after keep
walk_end {by} {x} {y} {a} {b} w h = record {
  first = λ out open? l p q.
      let t = feasible? by.n (length_of by.n out) (length_of by.n (whole32 by.table.now)) open? (edge_list by.k) by.c in
      sym (ap first_of (sym (w.same out open? l p q) ∙ ap (keep t) (pairs_after_end by.n a b h w.up)));
}
