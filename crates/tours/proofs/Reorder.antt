-- A tour that uses every edge of a path runs along it; its inner points in another order make a tour again, whose
-- length differs by what the two paths differ by (02, Paper 10). Assumes nothing.
use Prim.Native.Nat.{ℕ, ◌+◌, ◌≤◌}
use mathlib.Core.Path.{◌≡◌, refl, subst}
use mathlib.Core.Logic.{◌⊎◌, inl, inr}
use mathlib.Core.List.{List, [], ◌∷◌, ◌++◌}
use native.Mathlib.Omega.{arith}
use Rattle.lists.specs.Count.{count}
use Rattle.sets.specs.EdgeSet.{Has, path_edges, closed_edges}
use Rattle.tours.specs.Tour.{Tour, total, tour_length, Symmetric}
use Rattle.tours.proofs.Bit.{same, same_self, same_true}
use Rattle.tours.proofs.Count.{count_cons, tour_once, tour_counts}
use Rattle.tours.proofs.Edges.{Inside, has_sym, joins_first, joins_apart, mark, mark_fact, mark_false, mark_symmetric, uses_length}
use Rattle.tours.proofs.Segment.{Seg, cnt, len, after, count_after, total_after}
use Rattle.tours.proofs.Cut.{SinglePoint, Cons, cons, len_away}
use Rattle.tours.proofs.Opened.{Opened, opened}
use Rattle.tours.proofs.Exchange.{Exchanged}

-- an edge of a path begins at a point of it
path_count : (a : ℕ) (ws : List ℕ) (z p q : ℕ) → Has (path_edges a ws z) p q → 1 ≤ count p (a ∷ ws ++ z ∷ [])
unfolding path_edges
path_count a [] z p q (inl (inl e)) = omega (arith, count_cons p a (z ∷ []), same_true a p e.0)
path_count a [] z p q (inl (inr e)) = omega (arith, count_cons p a (z ∷ []), count_cons p z [], same_true z p e.1)
path_count a [] z p q (inr h) = absurd h
path_count a (b ∷ ws) z p q (inl (inl e)) = omega (arith, count_cons p a (b ∷ ws ++ z ∷ []), same_true a p e.0)
path_count a (b ∷ ws) z p q (inl (inr e)) =
    omega (arith, count_cons p a (b ∷ ws ++ z ∷ []), count_cons p b (ws ++ z ∷ []), same_true b p e.1)
path_count a (b ∷ ws) z p q (inr h) = omega (arith, count_cons p a (b ∷ ws ++ z ∷ []), path_count b ws z p q h)

-- the first point of a path with no point twice is on no edge of the rest of it, so its own edge is none of those
off_rest : (a b : ℕ) (ws : List ℕ) (z p q : ℕ) → count a (a ∷ b ∷ ws ++ z ∷ []) ≤ 1 → Has (path_edges b ws z) p q → p ≡ a → ⊥
off_rest a b ws z p q once h e =
    omega (
      arith,
      count_cons a a (b ∷ ws ++ z ∷ []),
      same_self a,
      subst (λ (x : ℕ). 1 ≤ count x (b ∷ ws ++ z ∷ [])) e (path_count b ws z p q h),
    )

mark_rest : (a b : ℕ) (ws : List ℕ) (z p q : ℕ) → count a (a ∷ b ∷ ws ++ z ∷ []) ≤ 1 → Has (path_edges b ws z) p q → mark p q a b ≡ 0
mark_rest a b ws z p q once h =
    mark_false p q a b
    (joins_apart a b p q (off_rest a b ws z p q once h) (off_rest a b ws z q p once (has_sym (path_edges b ws z) p q h)))

-- the segment S begins with its first point, the points ws and v
record Along {a z : ℕ} (S : Seg a z) (ws : List ℕ) (v : ℕ) : Type 0 where
  rest : Seg v z
  counts : (x : ℕ) → cnt x S ≡ same a x + count x ws + cnt x rest
  lengths : (l : ℕ → ℕ → ℕ) → Symmetric l → len l S ≡ total l (path_edges a ws v) + len l rest

along_cons : {a z : ℕ} (S : Seg a z) (X : Cons S) → Along S [] X.next
unfolding count total path_edges
along_cons S X = record { rest = X.rest; counts = λ x. omega (arith, X.counts x); lengths = λ l y. omega (arith, X.lengths l y) }

-- the only edge at the first point is that to the next one
along_edge : {a z : ℕ} (S : Seg a z) (b : ℕ) → cnt a S ≤ 1 → 1 ≤ len (mark a b) S → Along S [] b
along_edge {a} S b once h = go (cons S)
  where
    go : SinglePoint S ⊎ Cons S → Along S [] b
    go (inl X) = absurd (omega (arith, X.lengths (mark a b) (mark_symmetric a b)))
    go (inr X) =
        let away : len (mark a b) X.rest ≡ 0 = len_away X.rest a b (omega (arith, X.counts a, same_self a)) in
        subst (λ (v : ℕ). Along S [] v)
        (joins_first a X.next b (mark_fact a b a X.next (omega (arith, X.lengths (mark a b) (mark_symmetric a b)))))
        (along_cons S X)

-- a segment with no point twice that has the edges of a path from its first point runs along the path
along : {a z : ℕ} (S : Seg a z) (ws : List ℕ) (v : ℕ) →
    ((x : ℕ) → cnt x S ≤ 1) →
    ((x : ℕ) → count x (a ∷ ws ++ v ∷ []) ≤ 1) →
    ((p q : ℕ) → Has (path_edges a ws v) p q → 1 ≤ len (mark p q) S) →
    Along S ws v
unfolding count total path_edges
along {a} S [] v once path has = along_edge S v (once a) (has a v (inl (inl (refl, refl))))
along {a} S (b ∷ ws) v once path has =
    let A : Along S [] b = along_edge S b (once a) (has a b (inl (inl (refl, refl)))) in
    let B : Along A.rest ws v =
    along A.rest ws v
    (λ x. omega (arith, once x, A.counts x))
    (λ x. omega (arith, path x, count_cons x a (b ∷ ws ++ v ∷ [])))
    (λ p q h. omega (arith, has p q (inr h), A.lengths (mark p q) (mark_symmetric p q), mark_rest a b ws v p q (path a) h))
    in
    record {
      rest = B.rest;
      counts = λ x. omega (arith, A.counts x, B.counts x, count_cons x b ws);
      lengths = λ l y. omega (arith, A.lengths l y, B.lengths l y);
    }

-- the closed list t is the points ws and a segment from v to u: it runs along u, ws, v
record Through (t : List ℕ) (u : ℕ) (ws : List ℕ) (v : ℕ) : Type 0 where
  rest : Seg v u
  counts : (x : ℕ) → count x t ≡ count x ws + cnt x rest
  lengths : (l : ℕ → ℕ → ℕ) → Symmetric l → tour_length l t ≡ total l (path_edges u ws v) + len l rest

through : (t : List ℕ) (u : ℕ) (ws : List ℕ) (v : ℕ) →
    ((x : ℕ) → count x t ≤ 1) →
    ((x : ℕ) → count x (u ∷ ws ++ v ∷ []) ≤ 1) →
    Inside (path_edges u ws v) (closed_edges t) →
    Through t u ws v
unfolding count total path_edges
through t u [] v once path inside =
    let O : Opened t v u = opened t v u (has_sym (closed_edges t) u v (inside u v (inl (inl (refl, refl))))) in
    record { rest = O.seg; counts = λ x. omega (arith, O.counts x); lengths = λ l y. omega (arith, O.lengths l y) }
through t u (b ∷ ws) v once path inside =
    let O : Opened t b u = opened t b u (has_sym (closed_edges t) u b (inside u b (inl (inl (refl, refl))))) in
    let A : Along O.seg ws v =
    along O.seg ws v
    (λ x. omega (arith, once x, O.counts x))
    (λ x. omega (arith, path x, count_cons x u (b ∷ ws ++ v ∷ [])))
    (λ p q h.
    omega (
      arith,
      uses_length t p q (inside p q (inr h)),
      O.lengths (mark p q) (mark_symmetric p q),
      mark_rest u b ws v p q (path u) h,
    ))
    in
    record {
      rest = A.rest;
      counts = λ x. omega (arith, O.counts x, A.counts x, count_cons x b ws);
      lengths = λ l y. omega (arith, O.lengths l y, A.lengths l y);
    }

-- REORDER: the inner points of a path in another order. The tour t uses every edge of the path u, ws, v, and vs has the
-- points of ws, each as often: then there is a tour with the edges of u, vs, v for those of u, ws, v.
-- Let b be the point behind u on the path. Turn t, and reverse it if need be, so that ub closes it: a segment from b to
-- u. The path from b on does not come back to u, so all its edges are edges of this segment. In a segment with no point
-- twice the first point has one edge, that to the next point; so the path's next point is the segment's, and the rest
-- of the path, which does not come back to b either, has its edges in the rest of the segment. By induction the segment
-- is the path from b to v and then a segment R from v to u. R, then vs, closed from the last of vs to v, has each point
-- as often as t; and of the tour's length the part in R stays, the path u, ws, v is taken out, and u, vs, v put in.
-- A path without inner points makes R all of the tour, a path of all n points leaves the edge vu as R.
pub reorder :
    {n : ℕ} {t : List ℕ} →
    Tour n t →
    (u : ℕ) (ws : List ℕ) (v : ℕ) (vs : List ℕ) →
    ((x : ℕ) → count x (u ∷ ws ++ v ∷ []) ≤ 1) →
    Inside (path_edges u ws v) (closed_edges t) →
    ((x : ℕ) → count x vs ≡ count x ws) →
    Exchanged n t (path_edges u ws v) (path_edges u vs v)
unfolding tour_length closed_edges
reorder {n} {t} T u ws v vs path inside equal =
    record {
      tour = v ∷ after R.rest vs;
      is-tour =
          tour_counts T (λ x. omega (arith, count_cons x v (after R.rest vs), count_after x R.rest vs, equal x, R.counts x));
      exchange = record { taken = inside; balance = λ l y. omega (arith, total_after l R.rest vs v, R.lengths l y) };
    }
  where
    R : Through t u ws v
    R = through t u ws v (tour_once T) path inside
