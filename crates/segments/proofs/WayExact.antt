-- What is found over a neighbour of u against paths, in a set where no point has three edges: what is found is a path
-- from u to v over that neighbour, and every such path is found. Assumes nothing.
use Prim.Native.Nat.{ℕ, zero, suc, ◌<◌}
use native.Mathlib.Omega.{arith}
use mathlib.Core.Path.{◌≡◌, refl, sym, ap, ◌∙◌, subst}
use mathlib.Core.Bool.{Bool, true, false, cond}
use mathlib.Core.List.{List, [], ◌∷◌, ◌++◌}
use mathlib.Core.Logic.{inl, inr, ⊎_elim}
use lib.Dec.{eqb}
use lib.ListN.{length}
use lib.Seq.{append_snoc}
use borrow.Author.Tests.{eqb-true, eqb-false, eq-eqb, ne_eqb}
use Rattle.lengths.specs.Edge.{Edge}
use Rattle.sets.specs.EdgeSet.{Has, path_edges, AtMostTwo}
use Rattle.sets.specs.Neighbours.{neighbours_of, beyond}
use Rattle.sets.specs.declared.neighbours.PathStep.{PathStep}
use Rattle.sets.specs.declared.neighbours.PathStep.TheVariants.{Stop, On, Fork}
use Rattle.sets.proofs.Laws.Neighbours.{Leads, Onward, onward_exact}
use Rattle.sets.proofs.Laws.Points.{In, Distinct}
use Rattle.sets.proofs.Laws.Trail.{last_of}
use Rattle.tours.proofs.Edges.{Inside, inside_nil, inside_cons}
use Rattle.segments.specs.SegmentTest.{led_to, followed, over}
use Rattle.segments.proofs.Paths.{in_snoc, snoc_last, snoc_in, distinct_snoc, last_snoc, longer, new_point}

-- the steps that find ws: to v, never back to u, and at each point to its one other neighbour
data Way (K : List Edge) (u v : ℕ) : (from at : ℕ) → (passed ws : List ℕ) → Type 0 where
  here : {from at : ℕ} {passed : List ℕ} → at ≡ v → Way K u v from at passed passed
  on : {from at w : ℕ} {passed ws : List ℕ} → (at ≡ u → ⊥) → Leads K at from w → Way K u v at w (passed ++ at ∷ []) ws
      → Way K u v from at passed ws

module _ (K : List Edge) (u v : ℕ) where
  way_step : (f from at : ℕ) (passed : List ℕ)
      → ((w : ℕ) → (followed f K u v at w (passed ++ at ∷ []) ≡ [] → ⊥)
      → Way K u v at w (passed ++ at ∷ []) (followed f K u v at w (passed ++ at ∷ [])))
      → (s : Bool) → eqb at v ≡ s → (t : Bool) → eqb at u ≡ t → (m : PathStep) → Onward K at from m
      → (cond s passed (cond t [] (led_to m (λ w. followed f K u v at w (passed ++ at ∷ [])))) ≡ [] → ⊥)
      → Way K u v from at passed (cond s passed (cond t [] (led_to m (λ w. followed f K u v at w (passed ++ at ∷ [])))))
  unfolding led_to
  way_step f from at passed rec true e t g m h some = here (eqb-true at v e)
  way_step f from at passed rec false e true g m h some = absurd (some refl)
  way_step f from at passed rec false e false g Stop h some = absurd (some refl)
  way_step f from at passed rec false e false g (On w) h some = on (eqb-false at u g) h (rec w some)
  way_step f from at passed rec false e false g Fork h some = absurd (some refl)

  -- what is found, is found by such steps
  found_way : (f from at : ℕ) (passed : List ℕ) → (followed f K u v from at passed ≡ [] → ⊥)
      → Way K u v from at passed (followed f K u v from at passed)
  unfolding followed
  found_way zero from at passed some = absurd (some refl)
  found_way (suc f) from at passed some =
      way_step f from at passed (λ w. found_way f at w (passed ++ at ∷ [])) (eqb at v) refl (eqb at u) refl
      (beyond (neighbours_of K at) from)
      (onward_exact K at from) some

  -- a first point passed stays the first
  way_first : {from at : ℕ} {passed ws : List ℕ} → Way K u v from at passed ws → (x : ℕ) (xs : List ℕ) → passed ≡ x ∷ xs
      → (ys : List ℕ) × (ws ≡ x ∷ ys)
  way_first (here e) x xs p = (xs, p)
  way_first (on {at = at} ne l w) x xs p = way_first w x (xs ++ at ∷ []) (ap (λ (ps : List ℕ). ps ++ at ∷ []) p)

  -- what is found over a begins with a
  way_start : {from at : ℕ} {passed ws : List ℕ} → Way K u v from at passed ws → passed ≡ [] → (ws ≡ [] → ⊥)
      → (ys : List ℕ) × (ws ≡ at ∷ ys)
  way_start (here e) p some = absurd (some p)
  way_start (on {at = at} ne l w) p some = way_first w at [] (ap (λ (ps : List ℕ). ps ++ at ∷ []) p)

  pub over_first : (a : ℕ) → (over K u v a ≡ [] → ⊥) → (ys : List ℕ) × (over K u v a ≡ a ∷ ys)
  unfolding over
  over_first a some = way_start (found_way (length K) u a [] some) refl some

  -- what holds of every neighbour holds of each point found, where it holds of those passed
  way_points : (P : ℕ → Type 0) → ((a b : ℕ) → Has K a b → P b) → {from at : ℕ} {passed ws : List ℕ} → Way K u v from at passed ws
      → P at → ((x : ℕ) → In x passed → P x) → (x : ℕ) → In x ws → P x
  way_points P near (here e) pa ps = ps
  way_points P near (on {at = at} {w = w} {passed = passed} ne l way) pa ps =
      way_points P near way (near at w l.has) (λ x h. ⊎_elim (ps x) (λ e. subst P e pa) (in_snoc x at passed h))

  pub over_points : (P : ℕ → Type 0) → ((a b : ℕ) → Has K a b → P b) → (a : ℕ) → Has K u a → (x : ℕ) → In x (over K u v a) → P x
  unfolding over
  over_points P near a h x k = way_points P near (found_way (length K) u a [] (λ e. rw e at k)) (near u a h) (λ y j. absurd j) x k

  module _ (two : AtMostTwo K) (plain : (x : ℕ) → Has K x x → ⊥) (uv : u ≡ v → ⊥) where
    -- no way goes on from u
    from_u : {from at : ℕ} {passed ws : List ℕ} → Way K u v from at passed ws → at ≡ u → ⊥
    from_u (here e) f = uv (sym f ∙ e)
    from_u (on ne l w) f = ne f

    -- a path of K from u to `at`, no point twice, that came over `from`
    record Come (from at : ℕ) (passed : List ℕ) : Type 0 where
      inside : Inside (path_edges u passed at) K
      distinct : Distinct (u ∷ passed ++ at ∷ [])
      last : last_of u passed ≡ from

    go_on_lem : {from at w : ℕ} {passed : List ℕ} → Come from at passed → Leads K at from w → (w ≡ u → ⊥) → Come at w (passed ++ at ∷ [])
    go_on_lem {from} {at} {w} {passed} c l wu =
        record {
          inside = longer K u passed at w c.inside l.has;
          distinct = distinct_snoc w (u ∷ passed ++ at ∷ []) c.distinct new;
          last = last_snoc u at passed;
        }
      where
        inner : In w passed → ⊥
        inner = new_point K two u passed at w c.inside c.distinct l.has (λ e. l.new (e ∙ c.last))

        new : In w (u ∷ passed ++ at ∷ []) → ⊥
        new =
            ⊎_elim (λ e. wu (sym e))
            (λ h. ⊎_elim inner (λ e. plain w (subst (λ (t : ℕ). Has K t w) e l.has)) (in_snoc w at passed h))

    way_path : {from at : ℕ} {passed ws : List ℕ} → Way K u v from at passed ws → Come from at passed
        → Inside (path_edges u ws v) K × Distinct (u ∷ ws ++ v ∷ [])
    way_path (here {passed = passed} e) c = (
      subst (λ (t : ℕ). Inside (path_edges u passed t) K) e c.inside,
      subst (λ (t : ℕ). Distinct (u ∷ passed ++ t ∷ [])) e c.distinct,
    )
    way_path (on ne l w) c = way_path w (go_on_lem c l (from_u w))

    -- what is found over a neighbour of u is a path
    pub over_path : (a : ℕ) → Has K u a → (over K u v a ≡ [] → ⊥)
        → Inside (path_edges u (over K u v a) v) K × Distinct (u ∷ over K u v a ++ v ∷ [])
    unfolding over path_edges
    over_path a h some =
        way_path (found_way (length K) u a [] some)
        (record {
          inside = inside_cons [] K u a h (inside_nil K);
          distinct = (⊎_elim (λ e. plain u (subst (λ (t : ℕ). Has K u t) e h)) (λ k. k), ((λ k. k), tt));
          last = refl;
        })

    -- b's one other neighbour
    onward_to : (b from c : ℕ) → Has K b from → Has K b c → (c ≡ from → ⊥) → beyond (neighbours_of K b) from ≡ On c
    onward_to b from c hf hc ne = go (beyond (neighbours_of K b) from) (onward_exact K b from)
      where
        go : (m : PathStep) → Onward K b from m → m ≡ On c
        go Stop h = absurd (ne (h c hc))
        go (On w) h = ap On (sym (h.only c hc ne))
        go Fork h = absurd (⊎_elim h.a_b (⊎_elim h.a_from h.b_from) (two b h.a h.b from h.has_a h.has_b hf))

    one_step : (f from b c : ℕ) (passed : List ℕ) → (b ≡ v → ⊥) → (b ≡ u → ⊥) → Has K b from → Has K b c → (c ≡ from → ⊥)
        → followed (suc f) K u v from b passed ≡ followed f K u v b c (passed ++ b ∷ [])
    unfolding followed led_to
    one_step f from b c passed nv nu hf hc ne = rw (ne_eqb b v nv, ne_eqb b u nu, onward_to b from c hf hc ne)

    at_v : (f from : ℕ) (passed : List ℕ) → followed (suc f) K u v from v passed ≡ passed
    unfolding followed
    at_v f from passed = rw (eq-eqb v v refl)

    -- the rest of a path is found
    follows : (f from b : ℕ) (xs passed : List ℕ) → Inside (path_edges from (b ∷ xs) v) K → Distinct (from ∷ b ∷ xs ++ v ∷ [])
        → (In u (b ∷ xs) → ⊥)
        → length (b ∷ xs) < f → followed f K u v from b passed ≡ passed ++ b ∷ xs
    unfolding path_edges
    follows zero from b xs passed ins d nu fuel = absurd (omega arith)
    follows (suc zero) from b xs passed ins d nu fuel = absurd (omega arith)
    follows (suc (suc f)) from b [] passed ins d nu fuel =
        one_step (suc f) from b v passed (λ e. d.1.0 (inl (sym e))) (λ e. nu (inl e)) (ins b from (inl (inr (refl, refl))))
        (ins b v (inr (inl (inl (refl, refl))))) (λ e. d.0 (inr (inl e)))
        ∙ at_v f b (passed ++ b ∷ [])
    follows (suc (suc f)) from b (c ∷ xs) passed ins d nu fuel =
        one_step (suc f) from b c passed (λ e. d.1.0 (subst (λ (w : ℕ). In w (c ∷ xs ++ v ∷ [])) (sym e) (snoc_last v (c ∷ xs)))) (λ e. nu (inl e))
        (ins b from (inl (inr (refl, refl))))
        (ins b c (inr (inl (inl (refl, refl))))) (λ e. d.0 (inr (inl e)))
        ∙ follows (suc f) b c xs (passed ++ b ∷ []) (λ p q h. ins p q (inr h)) d.1 (λ h. nu (inr h)) (omega arith)
        ∙ append_snoc passed b (c ∷ xs)

    -- a path from u to v is found over its first point
    pub path_over : (b : ℕ) (xs : List ℕ) → Inside (path_edges u (b ∷ xs) v) K → Distinct (u ∷ b ∷ xs ++ v ∷ []) → length (b ∷ xs) < length K
        → over K u v b ≡ b ∷ xs
    unfolding over
    path_over b xs ins d few = follows (length K) u b xs [] ins d (λ h. d.0 (snoc_in u v (b ∷ xs) h)) few
