-- No shortest tour uses a set that a new order of a segment closes (02, Paper 10), under any lengths between the low
-- and the high ones. Assumes nothing.
use Prim.Native.Nat.{ℕ, ◌≤◌}
use mathlib.Core.List.{List, [], ◌∷◌}
use native.Mathlib.Omega.{arith}
use Rattle.lengths.specs.Edge.{Edge, edge}
use Rattle.sets.specs.EdgeSet.{Has, path_edges}
use Rattle.tours.specs.Tour.{total, Uses, Shortest, Symmetric}
use Rattle.tours.proofs.Exchange.{Exchanged}
use Rattle.tours.proofs.Reorder.{reorder}
use Rattle.segments.specs.Segment.{Reorders}
use Rattle.demands.proofs.Monotone.{NoLonger}

total_no_longer : {l m : ℕ → ℕ → ℕ} → NoLonger l m → (es : List Edge) → total l es ≤ total m es
unfolding total
total_no_longer low [] = omega arith
total_no_longer low (edge a b ∷ es) = omega (arith, low a b, total_no_longer low es)

module _ {l m h : ℕ → ℕ → ℕ} (low : NoLonger l m) (high : NoLonger m h) where
  -- for lengths l ≤ m ≤ h: the old path is no shorter under m than under l, and the new one no longer than under h
  pub reorders_under : {K : List Edge} {u v : ℕ} {vs : List ℕ} → Reorders l h K u v vs → Reorders m m K u v vs
  reorders_under {u = u} {v} {vs} R =
      record {
        ws = R.ws;
        segment = R.segment;
        same = R.same;
        shorter = omega (arith, R.shorter, total_no_longer high (path_edges u vs v), total_no_longer low (path_edges u R.ws v));
      }

  -- REORDERED: for lengths l ≤ m ≤ h, no shortest tour under m uses a set that a reordering closes over l and h.
  -- The reordering closes it under m, too. A tour that uses the set uses the segment's path; with the inner points in
  -- the new order it is a tour again (`reorder`), shorter by what the new path is shorter by than the old one. But no
  -- tour is shorter than a shortest one.
  pub shortest_not_reordered :
      {n : ℕ} {t : List ℕ} {K : List Edge} {u v : ℕ} {vs : List ℕ} →
      Symmetric m → Shortest n m t → ((a b : ℕ) → Has K a b → Uses t a b) → Reorders l h K u v vs → ⊥
  shortest_not_reordered {n} {t} {u = u} {v} {vs} y S uses closed =
      let R = reorders_under closed in
      let X : Exchanged n t (path_edges u R.ws v) (path_edges u vs v) =
      reorder S.tour u R.ws v vs R.segment.path.once (λ a b k. uses a b (R.segment.path.inside a b k)) R.same
      in
      omega (arith, R.shorter, X.exchange.balance m y, S.least X.tour X.is-tour)
