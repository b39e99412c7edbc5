-- Paths of edges of K: one point more at the end, in a set where no point has three edges a point that is new, and no
-- more edges than K has. Assumes nothing.
use Prim.Native.Nat.{ℕ, suc, ◌<◌}
use native.Mathlib.Omega.{arith}
use mathlib.Core.Path.{◌≡◌, refl, sym, ap, ◌∙◌, subst}
use mathlib.Core.List.{List, [], ◌∷◌, ◌++◌}
use mathlib.Core.Logic.{◌⊎◌, inl, inr, ⊎_elim}
use lib.ListN.{length}
use Rattle.lengths.specs.Edge.{Edge, edge}
use Rattle.sets.specs.EdgeSet.{Joins, Has, path_edges, AtMostTwo}
use Rattle.sets.proofs.Laws.Points.{In, Distinct}
use Rattle.sets.proofs.Laws.Trail.{last_of}
use Rattle.tours.proofs.Edges.{Inside, inside_nil, inside_cons, has_sym, joins_apart}

-- the points of a list and one more
pub in_snoc : (x a : ℕ) (xs : List ℕ) → In x (xs ++ a ∷ []) → In x xs ⊎ (a ≡ x)
in_snoc x a [] h = ⊎_elim inr (λ k. absurd k) h
in_snoc x a (b ∷ xs) (inl e) = inl (inl e)
in_snoc x a (b ∷ xs) (inr h) = ⊎_elim (λ k. inl (inr k)) inr (in_snoc x a xs h)

pub snoc_last : (a : ℕ) (xs : List ℕ) → In a (xs ++ a ∷ [])
snoc_last a [] = inl refl
snoc_last a (b ∷ xs) = inr (snoc_last a xs)

pub snoc_in : (x a : ℕ) (xs : List ℕ) → In x xs → In x (xs ++ a ∷ [])
snoc_in x a [] x'' = elim x'' [ ]
snoc_in x a (b ∷ xs) (inl e) = inl e
snoc_in x a (b ∷ xs) (inr h) = inr (snoc_in x a xs h)

pub distinct_snoc : (a : ℕ) (xs : List ℕ) → Distinct xs → (In a xs → ⊥) → Distinct (xs ++ a ∷ [])
distinct_snoc a [] d na = ((λ h. h), tt)
distinct_snoc a (b ∷ xs) d na =
    (λ h. ⊎_elim d.0 (λ e. na (inl (sym e))) (in_snoc b a xs h), distinct_snoc a xs d.1 (λ h. na (inr h)))

pub last_snoc : (a b : ℕ) (xs : List ℕ) → last_of a (xs ++ b ∷ []) ≡ b
last_snoc a b [] = refl
last_snoc a b (c ∷ xs) = last_snoc c b xs

-- a path goes on to a neighbour of its last point
pub longer : (K : List Edge) (a : ℕ) (ws : List ℕ) (at w : ℕ) → Inside (path_edges a ws at) K → Has K at w
    → Inside (path_edges a (ws ++ at ∷ []) w) K
unfolding path_edges
longer K a [] at w ins h =
    inside_cons (edge at w ∷ []) K a at (ins a at (inl (inl (refl, refl)))) (inside_cons [] K at w h (inside_nil K))
longer K a (b ∷ ws) at w ins h =
    inside_cons (path_edges b (ws ++ at ∷ []) w) K a b (ins a b (inl (inl (refl, refl)))) (longer K b ws at w (λ p q k. ins p q (inr k)) h)

-- a neighbour of the last point other than the point before it is none of the points between: these have their two
-- neighbours on the path
pub new_point : (K : List Edge) → AtMostTwo K → (a : ℕ) (ws : List ℕ) (at w : ℕ) → Inside (path_edges a ws at) K
    → Distinct (a ∷ ws ++ at ∷ []) → Has K at w
    → (w ≡ last_of a ws → ⊥) → In w ws → ⊥
unfolding path_edges
new_point K two a [] at w ins d h nl x5 = elim x5 [ ]
new_point K two a (b ∷ []) at w ins d h nl (inl e) = nl (sym e)
new_point K two a (b ∷ []) at w ins d h nl (inr k) = k
new_point K two a (b ∷ c ∷ ws) at w ins d h nl (inl e) =
    ⊎_elim (λ f. d.0 (inr (inl (sym f))))
    (⊎_elim (λ f. d.0 (subst (λ (t : ℕ). In t (b ∷ c ∷ ws ++ at ∷ [])) (sym f) (snoc_last at (b ∷ c ∷ ws))))
    (λ f. d.1.1.0 (subst (λ (t : ℕ). In t (ws ++ at ∷ [])) (sym f) (snoc_last at ws))))
    (two b a c at (ins b a (inl (inr (refl, refl)))) (ins b c (inr (inl (inl (refl, refl)))))
    (subst (λ (t : ℕ). Has K t at) (sym e) (has_sym K at w h)))
new_point K two a (b ∷ c ∷ ws) at w ins d h nl (inr k) =
    new_point K two b (c ∷ ws) at w (λ p q j. ins p q (inr j)) d.1 h nl k

-- an edge of a path joins two of its points
pub path_point : (a : ℕ) (ws : List ℕ) (v p q : ℕ) → Has (path_edges a ws v) p q → In p (a ∷ ws ++ v ∷ [])
unfolding path_edges
path_point a [] v p q (inl (inl e)) = inl e.0
path_point a [] v p q (inl (inr e)) = inr (inl e.1)
path_point a [] v p q (inr h) = absurd h
path_point a (b ∷ ws) v p q (inl (inl e)) = inl e.0
path_point a (b ∷ ws) v p q (inl (inr e)) = inr (inl e.1)
path_point a (b ∷ ws) v p q (inr h) = inr (path_point b ws v p q h)

-- each point of a path has an edge of it
pub point_edge : (a : ℕ) (ws : List ℕ) (v x : ℕ) → In x (a ∷ ws ++ v ∷ []) → (y : ℕ) × Has (path_edges a ws v) x y
unfolding path_edges
point_edge a [] v x (inl e) = (v, inl (inl (e, refl)))
point_edge a [] v x (inr (inl e)) = (a, inl (inr (refl, e)))
point_edge a [] v x (inr (inr h)) = absurd h
point_edge a (b ∷ ws) v x (inl e) = (b, inl (inl (e, refl)))
point_edge a (b ∷ ws) v x (inr h) = let r = point_edge b ws v x h in (r.0, inr r.1)

-- K without an edge at a: what does not touch a is still there
record Less (K : List Edge) (a : ℕ) : Type 0 where
  rest : List Edge
  shorter : length K ≡ suc (length rest)
  keeps : (p q : ℕ) → (p ≡ a → ⊥) → (q ≡ a → ⊥) → Has K p q → Has rest p q

less : (K : List Edge) (a b : ℕ) → Has K a b → Less K a
less [] a b x' = elim x' [ ]
less (edge x y ∷ K) a b (inl j) =
    record { rest = K; shorter = refl; keeps = λ p q np nq. ⊎_elim (λ k. absurd (touches p q np nq j k)) (λ k. k) }
  where
    touches : (p q : ℕ) → (p ≡ a → ⊥) → (q ≡ a → ⊥) → Joins (edge x y) a b → Joins (edge x y) p q → ⊥
    touches p q np nq (inl e) = λ k. joins_apart x y p q (λ f. np (f ∙ e.0)) (λ f. nq (f ∙ e.0)) k
    touches p q np nq (inr e) = ⊎_elim (λ k. nq (sym k.1 ∙ e.1)) (λ k. np (sym k.1 ∙ e.1))
less (e ∷ K) a b (inr h) =
    let r = less K a b h in
    record {
      rest = e ∷ r.rest;
      shorter = ap suc r.shorter;
      keeps = λ p q np nq. ⊎_elim inl (λ k. inr (r.keeps p q np nq k));
    }

-- a path of K has fewer inner points than K has edges: without its first edge K has the rest of the path
pub path_few : (K : List Edge) (a : ℕ) (ws : List ℕ) (v : ℕ) → Inside (path_edges a ws v) K → Distinct (a ∷ ws ++ v ∷ [])
    → length ws < length K
unfolding path_edges
path_few K a [] v ins d = omega (arith, (less K a v (ins a v (inl (inl (refl, refl))))).shorter)
path_few K a (b ∷ ws) v ins d =
    let r = less K a b (ins a b (inl (inl (refl, refl)))) in
    let apart : (p q : ℕ) → Has (path_edges b ws v) p q → p ≡ a → ⊥ =
    λ p q h e. d.0 (subst (λ (t : ℕ). In t (b ∷ ws ++ v ∷ [])) e (path_point b ws v p q h))
    in
    let ih : length ws < length r.rest =
    path_few r.rest b ws v
    (λ p q h. r.keeps p q (apart p q h) (apart q p (has_sym (path_edges b ws v) p q h)) (ins p q (inr h))) d.1
    in
    omega (arith, r.shorter)
