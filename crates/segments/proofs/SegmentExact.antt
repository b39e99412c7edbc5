-- The segment and the test of a new order against what they stand for (02, Paper 10), for a set that a tour can hold.
-- Assumes nothing.
-- A path from u to v leaves u over one of its at most two neighbours, and each point of it but u and v leads on to just
-- one other: so the paths are what is found over the neighbours, one for each at most. There is a segment where u and v
-- are no neighbours and just one of these leads to v. In a closed tour both do.
use Prim.Native.Nat.{ℕ, ◌≤◌}
use native.Mathlib.Omega.{arith}
use mathlib.Core.Path.{◌≡◌, refl, sym, ap, ◌∙◌, subst}
use mathlib.Core.Bool.{Bool, true, false, cond, true≢false}
use mathlib.Core.List.{List, [], ◌∷◌, ◌++◌}
use mathlib.Core.Logic.{◌⊎◌, inl, inr, ⊎_elim, ◌↔◌}
use lib.Dec.{ltb}
use borrow.Author.Tests.{ltb-true, ltb-false, lt-ltb, le-ltb}
use Rattle.lengths.specs.Edge.{Edge}
use Rattle.lists.specs.Count.{count}
use Rattle.sets.specs.EdgeSet.{Has, path_edges}
use Rattle.sets.specs.Joined.{has?}
use Rattle.sets.specs.Neighbours.{neighbours_of}
use Rattle.sets.specs.Shape.{Shape}
use Rattle.sets.specs.declared.neighbours.Neighbours.{Neighbours}
use Rattle.sets.specs.declared.neighbours.Neighbours.TheVariants.{None, One, Two, More}
use Rattle.sets.proofs.Exact.{has_exact, neighbours_exact}
use Rattle.sets.proofs.Laws.Neighbours.{NeighboursAre}
use Rattle.sets.proofs.Laws.Points.{In, Distinct, distinct_of_once, once_of_distinct}
use Rattle.lists.proofs.Bools.{never_true}
use Rattle.tours.specs.Tour.{total}
use Rattle.tours.proofs.Edges.{inside_nil, inside_cons}
use Rattle.segments.specs.Segment.{Path, Segment, Reorders}
use Rattle.segments.specs.SegmentTest.{over, only_way, between, segment_of, segment?, same_points?, refusal_of, reordering}
use Rattle.std.specs.Prelude.{Ok, Err}
use Rattle.lengths.specs.Refusal.{refusal_number}
use Rattle.lengths.specs.declared.refusal.Refusal.TheVariants.{NoSegment, NotShorter}
use Rattle.segments.proofs.Paths.{snoc_last, snoc_in, path_few, point_edge}
use Rattle.segments.proofs.SamePoints.{same_sound, same_complete, count_in}
use Rattle.segments.proofs.WayExact.{over_first, over_path, path_over}
use Rattle.segments.proofs.Ways.{some_true, true_some, only_left, only_right, segment_self, segment_edge, segment_by}

-- the points of a path, its ends included, are different
path_distinct : {K : List Edge} {u v : ℕ} {ws : List ℕ} → Path K u v ws → Distinct (u ∷ ws ++ v ∷ [])
path_distinct {u = u} {v = v} {ws = ws} P = distinct_of_once (u ∷ ws ++ v ∷ []) P.once

-- and so its inner points are different
front_distinct : (v : ℕ) (ws : List ℕ) → Distinct (ws ++ v ∷ []) → Distinct ws
front_distinct v [] d = tt
front_distinct v (w ∷ ws) d = (λ k. d.0 (snoc_in w v ws k), front_distinct v ws d.1)

inner_distinct : {K : List Edge} {u v : ℕ} {ws : List ℕ} → Path K u v ws → Distinct ws
inner_distinct {v = v} {ws = ws} P = front_distinct v ws (path_distinct P).1

path_apart : {K : List Edge} {u v : ℕ} {ws : List ℕ} → Path K u v ws → u ≡ v → ⊥
path_apart {u = u} {v = v} {ws = ws} P e = (path_distinct P).0 (rw e (snoc_last v ws))

-- the edge uv alone is a path
edge_path : {K : List Edge} {u v : ℕ} → (u ≡ v → ⊥) → Has K u v → Path K u v []
unfolding path_edges
edge_path {K} {u} {v} ne h =
    record {
      once = once_of_distinct (u ∷ v ∷ []) (⊎_elim (λ e. ne (sym e)) (λ k. k), ((λ k. k), tt));
      inside = inside_cons [] K u v h (inside_nil K);
    }

path_edge : {K : List Edge} {u v : ℕ} → Path K u v [] → Has K u v
unfolding path_edges
path_edge {u = u} {v = v} P = P.inside u v (inl (inl (refl, refl)))

-- a path that is found over the neighbour b of u
record FoundOver (K : List Edge) (u v : ℕ) (xs : List ℕ) : Type 0 where
  b : ℕ
  near : Has K u b
  is : over K u v b ≡ xs

module _ {n : ℕ} {K : List Edge} (shape : Shape n K) (u v : ℕ) where
  -- every path is found over its first point
  found_over : (xs : List ℕ) → Path K u v xs → (Has K u v → ⊥) → FoundOver K u v xs
  unfolding path_edges
  found_over [] P ne = absurd (ne (path_edge P))
  found_over (b ∷ xs) P ne =
      record {
        b = b;
        near = P.inside u b (inl (inl (refl, refl)));
        is =
            path_over K u v shape.two shape.plain (path_apart P) b xs P.inside (path_distinct P)
            (path_few K u (b ∷ xs) v P.inside (path_distinct P));
      }

  module _ (uv : u ≡ v → ⊥) (ne : Has K u v → ⊥) where
    over_found : (a : ℕ) → Has K u a → (over K u v a ≡ [] → ⊥) → Path K u v (over K u v a)
    over_found a h some =
        let r = over_path K u v shape.two shape.plain uv a h some in
        record { once = once_of_distinct (u ∷ over K u v a ++ v ∷ []) r.1; inside = r.0 }

    -- the one way that leads to v is the segment
    only_over : (a : ℕ) → Has K u a → (over K u v a ≡ [] → ⊥) → ((c : ℕ) → Has K u c → (c ≡ a) ⊎ (over K u v c ≡ []))
        → Segment K u v (over K u v a)
    only_over a h some others = record { path = over_found a h some; inner = some; only = only' }
      where
        only' : (xs : List ℕ) → Path K u v xs → xs ≡ over K u v a
        only' xs P =
            let r = found_over xs P ne in
            ⊎_elim (λ e. sym r.is ∙ ap (over K u v) e)
            (λ e. absurd (ne (path_edge (subst (λ (ys : List ℕ). Path K u v ys) (sym r.is ∙ e) P)))) (others r.b r.near)

    between_sound : (m : Neighbours) → NeighboursAre K u m → (between K u v m ≡ [] → ⊥) → Segment K u v (between K u v m)
    unfolding between only_way
    between_sound None h some = absurd (some refl)
    between_sound (One a) h some = only_over a h.0 some (λ c k. inl (h.1 c k))
    between_sound (Two a b) h some = go (over K u v a) refl (over K u v b) refl some
      where
        go : (xs : List ℕ) → over K u v a ≡ xs → (ys : List ℕ) → over K u v b ≡ ys → (only_way xs ys ≡ [] → ⊥)
            → Segment K u v (only_way xs ys)
        go [] e ys f s =
            subst (Segment K u v) f
            (only_over b h.has_y (λ q. s (sym f ∙ q)) (λ c k. ⊎_elim (λ p. inr (ap (over K u v) p ∙ e)) inl (h.only c k)))
        go (x ∷ xs) e [] f s =
            subst (Segment K u v) e
            (only_over a h.has_x (λ q. s (sym e ∙ q)) (λ c k. ⊎_elim inl (λ p. inr (ap (over K u v) p ∙ f)) (h.only c k)))
        go (x ∷ xs) e (y ∷ ys) f s = absurd (s refl)
    between_sound More h some = absurd (some refl)

    -- beside the way of the segment no other leads to v
    no_other : (ws : List ℕ) → Segment K u v ws → (a b : ℕ) → (a ≡ b → ⊥) → Has K u b → over K u v a ≡ ws → over K u v b ≡ []
    no_other ws S a b ab hb e = go (over K u v b) refl
      where
        clash : (over K u v b ≡ [] → ⊥) → ⊥
        clash some =
            let r = over_first K u v b some in
            let s = over_first K u v a (λ q. S.inner (sym e ∙ q)) in
            let one : over K u v b ≡ over K u v a = S.only (over K u v b) (over_found b hb some) ∙ sym e in
            let heads : a ∷ s.0 ≡ b ∷ r.0 = sym s.1 ∙ sym one ∙ r.1 in
            ab (cc)

        go : (ys : List ℕ) → over K u v b ≡ ys → over K u v b ≡ []
        go [] f = f
        go (y ∷ ys) f = absurd (clash (λ q. never (sym f ∙ q)))
          where
            never : y ∷ ys ≡ [] → ⊥
            never q = let z : ◌≡◌ {A = ℕ} 0 1 = cc in omega arith

    between_complete : (ws : List ℕ) → Segment K u v ws → (m : Neighbours) → NeighboursAre K u m → FoundOver K u v ws → between K u v m ≡ ws
    unfolding between
    between_complete ws S None h r = absurd (h r.b r.near)
    between_complete ws S (One a) h r = ap (over K u v) (sym (h.1 r.b r.near)) ∙ r.is
    between_complete ws S (Two a b) h r = ⊎_elim first second (h.only r.b r.near)
      where
        first : r.b ≡ a → only_way (over K u v a) (over K u v b) ≡ ws
        first e =
            let is-a : over K u v a ≡ ws = ap (over K u v) (sym e) ∙ r.is in
            only_left (over K u v a) (over K u v b) (no_other ws S a b h.apart h.has_y is-a) ∙ is-a

        second : r.b ≡ b → only_way (over K u v a) (over K u v b) ≡ ws
        second e =
            let is_b : over K u v b ≡ ws = ap (over K u v) (sym e) ∙ r.is in
            only_right (over K u v a) (over K u v b) (no_other ws S b a (λ q. h.apart (sym q)) h.has_x is_b) ∙ is_b
    between_complete ws S More h r =
        absurd (⊎_elim h.a_b (⊎_elim h.a_c h.b_c) (shape.two u h.a h.b h.c h.has_a h.has_b h.has_c))

    far : has? K u v ≡ false
    far = never_true (has? K u v) (λ h. ne ((has_exact K u v).0 h))

  -- THEOREM: what is computed is the segment, where it is not empty
  pub segment_sound : segment? K u v ≡ true → Segment K u v (segment_of K u v)
  unfolding segment?
  segment_sound h =
      subst (Segment K u v) by
      (between_sound uv ne (neighbours_of K u) (neighbours_exact K u) (λ e. some (sym by ∙ e)))
    where
      some : segment_of K u v ≡ [] → ⊥
      some = some_true (segment_of K u v) h

      uv : u ≡ v → ⊥
      uv e = some (segment_self K u v e)

      ne : Has K u v → ⊥
      ne k = some (segment_edge K u v uv ((has_exact K u v).1 k))

      by : between K u v (neighbours_of K u) ≡ segment_of K u v
      by = segment_by K u v (neighbours_of K u) uv (far uv ne) refl

  -- THEOREM: and a segment is what is computed
  pub segment_complete : (ws : List ℕ) → Segment K u v ws → segment_of K u v ≡ ws
  segment_complete ws S =
      sym (segment_by K u v (neighbours_of K u) uv (far uv ne) refl)
      ∙ between_complete uv ne ws S (neighbours_of K u) (neighbours_exact K u) (found_over ws S.path ne)
    where
      uv : u ≡ v → ⊥
      uv = path_apart S.path

      ne : Has K u v → ⊥
      ne k = S.inner (sym (S.only [] (edge_path uv k)))

  pub segment_exact : (segment? K u v ≡ true) ↔ ((ws : List ℕ) × Segment K u v ws)
  unfolding segment?
  segment_exact = (
    λ h. (segment_of K u v, segment_sound h),
    λ S. true_some (segment_of K u v) (λ e. S.1.inner (sym (segment_complete S.0 S.1) ∙ e)),
  )

  -- THEOREM: a new order that computes to 0 closes K
  pub reorder_sound : (out put : ℕ → ℕ → ℕ) (vs : List ℕ) → segment? K u v ≡ true → reordering out put K u v vs ≡ 0
      → Reorders out put K u v vs
  unfolding refusal_number
  reorder_sound out put vs s h =
      let S = segment_sound s in
      let ws : List ℕ = segment_of K u v in
      let t = both (same_points? vs ws) (ltb (total put (path_edges u vs v)) (total out (path_edges u ws v))) h in
      record {
        ws = ws;
        segment = S;
        same = same_sound vs ws (inner_distinct S.path) t.0;
        shorter = ltb-true (total put (path_edges u vs v)) (total out (path_edges u ws v)) t.1;
      }
    where
      both : (s t : Bool) → refusal_of (cond s (cond t (Ok tt) (Err NotShorter)) (Err NoSegment)) ≡ 0 → (s ≡ true) × (t ≡ true)
      both true true e = (refl, refl)
      both true false e = absurd (omega arith)
      both false t e = absurd (omega arith)

  -- THEOREM: and one that closes K computes to 0
  pub reorder_complete : (out put : ℕ → ℕ → ℕ) (vs : List ℕ) → Reorders out put K u v vs
      → (segment? K u v ≡ true) × (reordering out put K u v vs ≡ 0)
  unfolding refusal_number
  reorder_complete out put vs R =
      let e : segment_of K u v ≡ R.ws = segment_complete R.ws R.segment in (
        segment_exact.1 (R.ws, R.segment),
        rw (e, same_complete vs R.ws R.same, lt-ltb (total put (path_edges u vs v)) (total out (path_edges u R.ws v)) R.shorter),
      )

  module _ (out put : ℕ → ℕ → ℕ) (vs ws : List ℕ) (S : Segment K u v ws) where
    same? : Bool
    same? = same_points? vs ws

    shorter? : Bool
    shorter? = ltb (total put (path_edges u vs v)) (total out (path_edges u ws v))

    -- the answer by the two tests
    answer : reordering out put K u v vs ≡ refusal_of (cond same? (cond shorter? (Ok tt) (Err NotShorter)) (Err NoSegment))
    unfolding same? shorter?
    answer = rw (segment_complete ws S)

    is_23 : (s t : Bool) → refusal_of (cond s (cond t (Ok tt) (Err NotShorter)) (Err NoSegment)) ≡ 23 → s ≡ false
    unfolding refusal_number
    is_23 true true e = absurd (omega arith)
    is_23 true false e = absurd (omega arith)
    is_23 false t e = refl

    is_24 : (s t : Bool) → refusal_of (cond s (cond t (Ok tt) (Err NotShorter)) (Err NoSegment)) ≡ 24 → (s ≡ true) × (t ≡ false)
    unfolding refusal_number
    is_24 true true e = absurd (omega arith)
    is_24 true false e = (refl, refl)
    is_24 false t e = absurd (omega arith)

    -- THEOREM: refusal 23 of a segment: the order does not name its inner points, each once
    pub other_points_exact : (reordering out put K u v vs ≡ 23) ↔ (((x : ℕ) → count x vs ≡ count x ws) → ⊥)
    unfolding refusal_number same?
    other_points_exact = (
      λ h e. true≢false (sym (same_complete vs ws e) ∙ is_23 same? shorter? (sym answer ∙ h)),
      λ ne. answer ∙ rw (never_true same? (λ h. ne (same_sound vs ws (inner_distinct S.path) h))),
    )

    -- THEOREM: refusal 24: it does, and is not shorter
    pub not_shorter_exact : (reordering out put K u v vs ≡ 24)
        ↔ (((x : ℕ) → count x vs ≡ count x ws) × (total out (path_edges u ws v) ≤ total put (path_edges u vs v)))
    unfolding refusal_number same? shorter?
    not_shorter_exact = (
      λ h.
          let t = is_24 same? shorter? (sym answer ∙ h) in (
            same_sound vs ws (inner_distinct S.path) t.0,
            ltb-false (total put (path_edges u vs v)) (total out (path_edges u ws v)) t.1,
          ),
      λ h.
          answer
          ∙ rw (same_complete vs ws h.0, le-ltb (total put (path_edges u vs v)) (total out (path_edges u ws v)) h.1),
    )

-- a new order is refused by 23 or 24
pub reordering_number : (out put : ℕ → ℕ → ℕ) (K : List Edge) (u v : ℕ) (vs : List ℕ) → 1 ≤ reordering out put K u v vs
    → (23 ≤ reordering out put K u v vs) × (reordering out put K u v vs ≤ 24)
unfolding refusal_number
reordering_number out put K u v vs =
    go (same_points? vs (segment_of K u v)) (ltb (total put (path_edges u vs v)) (total out (path_edges u (segment_of K u v) v)))
  where
    go : (s t : Bool) → 1 ≤ refusal_of (cond s (cond t (Ok tt) (Err NotShorter)) (Err NoSegment))
        → (23 ≤ refusal_of (cond s (cond t (Ok tt) (Err NotShorter)) (Err NoSegment)))
        × (refusal_of (cond s (cond t (Ok tt) (Err NotShorter)) (Err NoSegment)) ≤ 24)
    go true true h = absurd (omega arith)
    go true false h = (omega arith, omega arith)
    go false t h = (omega arith, omega arith)

-- u, v and the points that a new order names where it closes K have edges in K: what holds of every point with an edge
-- holds of them
pub reorders_points : {out put : ℕ → ℕ → ℕ} {K : List Edge} {u v : ℕ} {vs : List ℕ} (P : ℕ → Type 0) → ((a b : ℕ) → Has K a b → P a)
    → Reorders out put K u v vs → P u × P v × ((x : ℕ) → 1 ≤ count x vs → P x)
reorders_points {u = u} {v = v} P ends R = (
  at u (inl refl),
  at v (inr (snoc_last v R.ws)),
  λ x h. at x (inr (snoc_in x v R.ws (count_in x R.ws (omega (arith, R.same x))))),
)
  where
    at : (x : ℕ) → In x (u ∷ R.ws ++ v ∷ []) → P x
    at x h = let r = point_edge u R.ws v x h in ends x r.0 (R.segment.path.inside x r.0 r.1)
