-- One comparison of the legs with the bound decides conditions 1, 4 and 5 (`legs_bound`), so a pair is feasible exactly
-- when it passes it and meets conditions 2 and 3. Assumes nothing.
use Prim.Native.Nat.{ℕ}
use mathlib.Core.Path.{◌≡◌, refl, sym, ◌∙◌, ap}
use mathlib.Core.Bool.{Bool, true, false, ◌&&◌}
use mathlib.Core.List.{List}
use Rattle.lengths.specs.Edge.{Edge, Point}
use Rattle.lengths.specs.Table.{length_of, Lengths}
use Rattle.lengths.proofs.Tables.{length_symmetric, length_small}
use Rattle.rules.specs.PairTest.{candidate_leg?, unmoved?, feasible?}
use Rattle.sets.specs.Shape.{shape?}
use Rattle.search.specs.asks.Split.{Prepared}
use Rattle.search.specs.asks.Pairs.{passes?}
use Rattle.rules.proofs.LegsAndBound.{legs_bound}

regroup : (a b u s : Bool) → a && (b && (u && s)) ≡ a && (b && u) && s
regroup true true u s = refl
regroup true false u s = refl
regroup false b u s = refl

module _ {n : ℕ} {out table : List ℕ} {open? : ℕ → ℕ → Bool} {K : List Edge} {c : ℕ} {legs : List ℕ} {bound : ℕ}
    (f : Lengths n out) (h : Lengths n table) (p : Prepared n (length_of n out) (length_of n table) open? K c legs bound) (x y : ℕ) (px : Point n x) (py : Point n y) where
  one_comparison : passes? n table legs bound x y
      ≡ candidate_leg? (length_of n out) (length_of n table) open? K c x && (candidate_leg? (length_of n out) (length_of n table) open? K c y && unmoved? (length_of n out) (length_of n table) K c x y)
  unfolding passes?
  one_comparison =
      rw (p.each x px, p.each y py, p.least)
      (legs_bound (length_of n out) (length_of n table) (length_symmetric n out) (length_small f) (length_small h) c x y K (candidate_leg? (length_of n out) (length_of n table) open? K c x) (candidate_leg? (length_of n out) (length_of n table) open? K c y))

  -- a pair is feasible exactly when it passes the comparison and meets conditions 2 and 3
  pub feasible_passes : feasible? n (length_of n out) (length_of n table) open? K c x y ≡ passes? n table legs bound x y && shape? n K c x y
  unfolding feasible?
  feasible_passes =
      regroup (candidate_leg? (length_of n out) (length_of n table) open? K c x) (candidate_leg? (length_of n out) (length_of n table) open? K c y) (unmoved? (length_of n out) (length_of n table) K c x y) (shape? n K c x y)
      ∙ ap (λ (t : Bool). t && shape? n K c x y) (sym one_comparison)
