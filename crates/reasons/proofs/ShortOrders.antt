-- A new order of a segment of at most two inner points is no shorter under condition 5: of one point there is one
-- order, and the other order of two is a moved point. Assumes nothing.
use Prim.Native.Nat.{ℕ, ◌≤◌, ◌<◌}
use mathlib.Core.Path.{◌≡◌, refl, sym, ◌∙◌, ap, subst}
use mathlib.Core.Logic.{◌⊎◌, inl, inr, ⊎_elim}
use mathlib.Core.List.{List, [], ◌∷◌, ◌++◌}
use native.Mathlib.Omega.{arith}
use lib.Dec.{eqb}
use lib.ListN.{length}
use borrow.Author.Tests.{eqb-true}
use Rattle.lists.specs.Count.{count}
use Rattle.lists.proofs.Bools.{and_left}
use Rattle.lengths.specs.Edge.{Edge}
use Rattle.sets.specs.EdgeSet.{Has, AtMostTwo, path_edges}
use Rattle.sets.proofs.Laws.Joined.{pigeon}
use Rattle.sets.proofs.Laws.Points.{In, Distinct, distinct_of_once}
use Rattle.tours.specs.Tour.{total}
use Rattle.rules.specs.Pair.{Unmovable}
use Rattle.rules.proofs.Savings.{move_sum}
use Rattle.segments.specs.Segment.{Path}
use Rattle.segments.specs.SegmentTest.{same_points?, all_named?}
use Rattle.segments.proofs.SamePoints.{in_count, count_in, same_complete}
use Rattle.reasons.proofs.Conditions.{degree_two}

-- the orders of no point, of one and of two

module _ (vs ws : List ℕ) (same : (x : ℕ) → count x vs ≡ count x ws) where
  as_long : length vs ≡ length ws
  as_long = eqb-true (length vs) (length ws) (and_left (eqb (length vs) (length ws)) (all_named? ws vs) (same_complete vs ws same))

  still_in : (x : ℕ) → In x ws → In x vs
  still_in x h = count_in x vs (omega (arith, same x, in_count x ws h))

no_order : (vs : List ℕ) → length vs ≡ 0 → vs ≡ []
no_order [] e = refl
no_order (v ∷ vs) e = absurd (omega arith)

one_order : (p : ℕ) (vs : List ℕ) → length vs ≡ 1 → In p vs → vs ≡ p ∷ []
one_order p (r ∷ []) e (inr x7) = elim x7 [ ]
one_order p [] e i = elim i [ ]
one_order p (r ∷ []) e (inl h) = ap (λ (z : ℕ). z ∷ []) h
one_order p (r ∷ s ∷ vs) e i = absurd (omega arith)

two_orders : (p q : ℕ) → (p ≡ q → ⊥) → (vs : List ℕ) → length vs ≡ 2 → In p vs → In q vs → (vs ≡ p ∷ q ∷ []) ⊎ (vs ≡ q ∷ p ∷ [])
two_orders p q pq (r ∷ (s ∷ [])) e (inr (inr x18)) j = elim x18 [ ]
two_orders p q pq (r ∷ (s ∷ [])) e (inr (inl f)) (inr (inr x19)) = elim x19 [ ]
two_orders p q pq (r ∷ (s ∷ [])) e (inl f) (inr (inr x16)) = elim x16 [ ]
two_orders p q pq [] e i j = elim i [ ]
two_orders p q pq (r ∷ []) e i j = absurd (omega arith)
two_orders p q pq (r ∷ s ∷ []) e (inl f) (inl g) = absurd (pq (sym f ∙ g))
two_orders p q pq (r ∷ s ∷ []) e (inl f) (inr (inl g)) = inl (cc)
two_orders p q pq (r ∷ s ∷ []) e (inr (inl f)) (inl g) = inr (cc)
two_orders p q pq (r ∷ s ∷ []) e (inr (inl f)) (inr (inl g)) = absurd (pq (sym f ∙ g))
two_orders p q pq (r ∷ s ∷ t ∷ vs) e i j = absurd (omega arith)

module _ (len : ℕ → ℕ → ℕ) (turns : (p q : ℕ) → len p q ≡ len q p) (S : List Edge) (two : AtMostTwo S) (free : Unmovable len len S) (u v : ℕ) where
  -- u, p, q, v in the order u, q, p, v: p moves to between q and v
  swap_longer : (p q : ℕ) → Path S u v (p ∷ q ∷ []) → total len (path_edges u (q ∷ p ∷ []) v) < total len (path_edges u (p ∷ q ∷ []) v) → ⊥
  unfolding total path_edges
  swap_longer p q path short =
      let d : Distinct (u ∷ p ∷ q ∷ v ∷ []) = distinct_of_once (u ∷ p ∷ q ∷ v ∷ []) path.once in
      free p u q q v
      (degree_two two (λ e. d.0 (inr (inl (sym e)))) (path.inside p u (inl (inr (refl, refl)))) (path.inside p q (inr (inl (inl (refl, refl))))))
      (path.inside q v (inr (inr (inl (inl (refl, refl))))))
      (λ e. d.1.0 (inl e)) (λ e. d.1.0 (inr (inl e)))
      ((move_sum len len p u q q v).1 (omega (arith, short, turns p q, turns p v)))

  -- a segment of at most two inner points has no shorter order
  pub short_order : (ws vs : List ℕ) → length ws ≤ 2 → Path S u v ws → ((x : ℕ) → count x vs ≡ count x ws)
      → total len (path_edges u vs v) < total len (path_edges u ws v) → ⊥
  short_order [] vs l path same short =
      omega (arith, subst (λ (zs : List ℕ). total len (path_edges u zs v) < total len (path_edges u [] v)) (no_order vs (as_long vs [] same)) short)
  short_order (p ∷ []) vs l path same short =
      let e : vs ≡ p ∷ [] = one_order p vs (as_long vs (p ∷ []) same) (still_in vs (p ∷ []) same p (inl refl)) in
      omega (arith, subst (λ (zs : List ℕ). total len (path_edges u zs v) < total len (path_edges u (p ∷ []) v)) e short)
  short_order (p ∷ q ∷ []) vs l path same short =
      let d : Distinct (u ∷ p ∷ q ∷ v ∷ []) = distinct_of_once (u ∷ p ∷ q ∷ v ∷ []) path.once in
      let i = still_in vs (p ∷ q ∷ []) same in
      ⊎_elim (λ e. omega (arith, subst (λ (zs : List ℕ). total len (path_edges u zs v) < total len (path_edges u (p ∷ q ∷ []) v)) e short))
      (λ e. swap_longer p q path (subst (λ (zs : List ℕ). total len (path_edges u zs v) < total len (path_edges u (p ∷ q ∷ []) v)) e short))
      (two_orders p q (λ e. d.1.0 (inl (sym e))) vs (as_long vs (p ∷ q ∷ []) same) (i p (inl refl)) (i q (inr (inl refl))))
  short_order (p ∷ q ∷ r ∷ ws) vs l path same short = absurd (omega arith)

-- where two points alone have two neighbours, a path has at most two inner points
pub two_inner : (S : List Edge) (u v c d : ℕ) → ((w s t : ℕ) → (s ≡ t → ⊥) → Has S w s → Has S w t → (w ≡ c) ⊎ (w ≡ d)) → (ws : List ℕ)
    → Path S u v ws → length ws ≤ 2
unfolding path_edges
two_inner S u v c d only [] path = omega arith
two_inner S u v c d only (p ∷ []) path = omega arith
two_inner S u v c d only (p ∷ q ∷ []) path = omega arith
two_inner S u v c d only (p ∷ q ∷ r ∷ ws) path =
    let D : Distinct (u ∷ p ∷ q ∷ r ∷ ws ++ v ∷ []) = distinct_of_once (u ∷ p ∷ q ∷ r ∷ ws ++ v ∷ []) path.once in
    let at_p = only p u q (λ e. D.0 (inr (inl (sym e)))) (path.inside p u (inl (inr (refl, refl)))) (path.inside p q (inr (inl (inl (refl, refl))))) in
    let at-q = only q p r (λ e. D.1.0 (inr (inl (sym e)))) (path.inside q p (inr (inl (inr (refl, refl))))) (path.inside q r (inr (inr (inl (inl (refl, refl)))))) in
    let k = next ws path D in
    let at-r = only r q k.0 k.1 (path.inside r q (inr (inr (inl (inr (refl, refl)))))) k.2 in
    absurd (⊎_elim (λ e. D.1.0 (inl (sym e))) (⊎_elim (λ e. D.1.0 (inr (inl (sym e)))) (λ e. D.1.1.0 (inl (sym e)))) (pigeon at_p at-q at-r))
  where
    next : (ws : List ℕ) → Path S u v (p ∷ q ∷ r ∷ ws) → Distinct (u ∷ p ∷ q ∷ r ∷ ws ++ v ∷ []) → (t : ℕ) × (q ≡ t → ⊥) × Has S r t
    next [] path D = (v, (λ e. D.1.1.0 (inr (inl (sym e)))), path.inside r v (inr (inr (inr (inl (inl (refl, refl)))))))
    next (t ∷ ws) path D = (t, (λ e. D.1.1.0 (inr (inl (sym e)))), path.inside r t (inr (inr (inr (inl (inl (refl, refl)))))))
