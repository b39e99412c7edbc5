-- The points of a cycle: each has two different neighbours on it, and its edges run between its points.
-- Assumes nothing.
use Prim.Native.Nat.{ℕ, ◌≤◌}
use native.Mathlib.Omega.{arith}
use mathlib.Core.Path.{◌≡◌, refl, sym, subst}
use mathlib.Core.List.{List, [], ◌∷◌}
use mathlib.Core.Logic.{inl, inr, ⊎_elim}
use lib.ListN.{length}
use Rattle.lengths.specs.Edge.{Edge, edge}
use Rattle.sets.specs.EdgeSet.{Has, path_edges, closed_edges, Cycle}
use Rattle.sets.proofs.Laws.Points.{In, Distinct, distinct_of_once}

-- u has two different neighbours in es, both of ps
pub record Sides (es : List Edge) (ps : List ℕ) (u : ℕ) : Type 0 where
  pub p : ℕ
  pub q : ℕ
  pub apart : p ≡ q → ⊥
  pub has_p : Has es u p
  pub has_q : Has es u q
  pub in_p : In p ps
  pub in_q : In q ps

wider : (z a : ℕ) (vs : List ℕ) (b p : ℕ) → In p (z ∷ b ∷ vs) → In p (z ∷ a ∷ b ∷ vs)
wider z a vs b p = ⊎_elim inl (λ h. inr (inr h))

-- an inner point of a path from a to z
inner : (a z : ℕ) (vs : List ℕ) (u : ℕ) → Distinct (a ∷ vs) → (In z vs → ⊥) → (z ≡ a → ⊥) → In u vs → Sides (path_edges a vs z) (z ∷ a ∷ vs) u
unfolding path_edges
inner a z [] u d nz za x4 = elim x4 [ ]
inner a z (b ∷ []) u d nz za (inl e) =
    record {
      p = a;
      q = z;
      apart = λ f. za (sym f);
      has_p = inl (inr (refl, e));
      has_q = inr (inl (inl (e, refl)));
      in_p = inr (inl refl);
      in_q = inl refl;
    }
inner a z (b ∷ []) u d nz za (inr h) = absurd h
inner a z (b ∷ t ∷ vs) u d nz za (inl e) =
    record {
      p = a;
      q = t;
      apart = λ f. d.0 (inr (inl (sym f)));
      has_p = inl (inr (refl, e));
      has_q = inr (inl (inl (e, refl)));
      in_p = inr (inl refl);
      in_q = inr (inr (inr (inl refl)));
    }
inner a z (b ∷ t ∷ vs) u d nz za (inr h) =
    let s = inner b z (t ∷ vs) u d.1 (λ k. nz (inr k)) (λ e. nz (inl (sym e))) h in
    record {
      p = s.p;
      q = s.q;
      apart = s.apart;
      has_p = inr s.has_p;
      has_q = inr s.has_q;
      in_p = wider z a (t ∷ vs) b s.p s.in_p;
      in_q = wider z a (t ∷ vs) b s.q s.in_q;
    }

-- the last point before z
record Last (a z b : ℕ) (vs : List ℕ) : Type 0 where
  l : ℕ
  is_in : In l (b ∷ vs)
  has : Has (path_edges a (b ∷ vs) z) z l

lasts : (a z b : ℕ) (vs : List ℕ) → Last a z b vs
unfolding path_edges
lasts a z b [] = record { l = b; is_in = inl refl; has = inr (inl (inr (refl, refl))) }
lasts a z b (t ∷ vs) =
    let r = lasts b z t vs in
    record { l = r.l; is_in = inr r.is_in; has = inr r.has }

closed_sides : (vs : List ℕ) (u : ℕ) → 3 ≤ length vs → Distinct vs → In u vs → Sides (closed_edges vs) vs u
unfolding closed_edges path_edges
closed_sides [] u h d k = elim h [ ]
closed_sides (a ∷ []) u h d k = absurd (omega arith)
closed_sides (a ∷ b ∷ []) u h d k = absurd (omega arith)
closed_sides (a ∷ b ∷ t ∷ vs) u h d (inl e) =
    let r = lasts b a t vs in
    record {
      p = b;
      q = r.l;
      apart = λ f. d.1.0 (subst (λ (w : ℕ). In w (t ∷ vs)) (sym f) r.is_in);
      has_p = inl (inl (e, refl));
      has_q = subst (λ (w : ℕ). Has (edge a b ∷ path_edges b (t ∷ vs) a) w r.l) e (inr r.has);
      in_p = inr (inl refl);
      in_q = inr (inr r.is_in);
    }
closed_sides (a ∷ b ∷ t ∷ vs) u h d (inr (inl e)) =
    record {
      p = a;
      q = t;
      apart = λ f. d.0 (inr (inl (sym f)));
      has_p = inl (inr (refl, e));
      has_q = inr (inl (inl (e, refl)));
      in_p = inl refl;
      in_q = inr (inr (inl refl));
    }
closed_sides (a ∷ b ∷ t ∷ vs) u h d (inr (inr k)) =
    let s = inner b a (t ∷ vs) u d.1 (λ j. d.0 (inr j)) (λ e. d.0 (inl (sym e))) k in
    record {
      p = s.p;
      q = s.q;
      apart = s.apart;
      has_p = inr s.has_p;
      has_q = inr s.has_q;
      in_p = s.in_p;
      in_q = s.in_q;
    }

-- each point of a cycle has two different neighbours on it
pub cycle_sides : (es : List Edge) (vs : List ℕ) → Cycle es vs → (u : ℕ) → In u vs → Sides es vs u
cycle_sides es vs C u h =
    let s = closed_sides vs u C.three (distinct_of_once vs C.once) h in
    record {
      p = s.p;
      q = s.q;
      apart = s.apart;
      has_p = C.inside u s.p s.has_p;
      has_q = C.inside u s.q s.has_q;
      in_p = s.in_p;
      in_q = s.in_q;
    }

path_in : (a : ℕ) (vs : List ℕ) (z p q : ℕ) → Has (path_edges a vs z) p q → In p (z ∷ a ∷ vs)
unfolding path_edges
path_in a [] z p q (inl (inl h)) = inr (inl h.0)
path_in a [] z p q (inl (inr h)) = inl h.1
path_in a [] z p q (inr h) = absurd h
path_in a (b ∷ vs) z p q (inl (inl h)) = inr (inl h.0)
path_in a (b ∷ vs) z p q (inl (inr h)) = inr (inr (inl h.1))
path_in a (b ∷ vs) z p q (inr h) = wider z a vs b p (path_in b vs z p q h)

-- an edge of a closed list starts at one of its points
pub closed_in : (vs : List ℕ) (p q : ℕ) → Has (closed_edges vs) p q → In p vs
unfolding closed_edges
closed_in [] p q h = h
closed_in (a ∷ vs) p q h = ⊎_elim inl (λ k. k) (path_in a vs a p q h)
