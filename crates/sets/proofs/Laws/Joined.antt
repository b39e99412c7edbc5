-- What a list of edges has: `has?` is true exactly when `Has` holds, an edge joins its points either way
-- round, and a point of three with two places to stand shares one. Assumes nothing.
use Prim.Native.Nat.{ℕ}
use mathlib.Core.Path.{◌≡◌, sym, ◌∙◌}
use mathlib.Core.Bool.{true, ◌&&◌, false≢true}
use mathlib.Core.List.{List, [], ◌∷◌}
use mathlib.Core.Logic.{◌⊎◌, inl, inr, ⊎_elim, ◌↔◌}
use lib.Dec.{eqb}
use borrow.Author.Tests.{eqb-true, eq-eqb}
use Rattle.lengths.specs.Edge.{Edge, edge}
use Rattle.lists.proofs.Bools.{and_both, and_true, or_true, true_or}
use Rattle.sets.specs.EdgeSet.{Joins, Has}
use Rattle.sets.specs.Joined.{joins?, has?}

-- an edge in the other direction
joins_sym : (e : Edge) (a b : ℕ) → Joins e a b → Joins e b a
joins_sym (edge p q) a b (inl h) = inr h
joins_sym (edge p q) a b (inr h) = inl h

pub has_sym : (es : List Edge) (a b : ℕ) → Has es a b → Has es b a
has_sym [] a b h = h
has_sym (e ∷ es) a b (inl h) = inl (joins_sym e a b h)
has_sym (e ∷ es) a b (inr h) = inr (has_sym es a b h)

-- three points that are each s or t are not all different
pub pigeon : {a b c s t : ℕ} → (a ≡ s) ⊎ (a ≡ t) → (b ≡ s) ⊎ (b ≡ t) → (c ≡ s) ⊎ (c ≡ t) → (a ≡ b) ⊎ ((a ≡ c) ⊎ (b ≡ c))
pigeon (inl p) (inl q) r = inl (p ∙ sym q)
pigeon (inr p) (inr q) r = inl (p ∙ sym q)
pigeon (inl p) (inr q) (inl r) = inr (inl (p ∙ sym r))
pigeon (inl p) (inr q) (inr r) = inr (inr (q ∙ sym r))
pigeon (inr p) (inl q) (inl r) = inr (inr (q ∙ sym r))
pigeon (inr p) (inl q) (inr r) = inr (inl (p ∙ sym r))

-- the test of one edge
joins_true : (p q a b : ℕ) → joins? p q a b ≡ true → Joins (edge p q) a b
joins_true p q a b h =
    ⊎_elim (λ e. let w = and_true (eqb p a) (eqb q b) e in inl (eqb-true p a w.0, eqb-true q b w.1))
    (λ e. let w = and_true (eqb p b) (eqb q a) e in inr (eqb-true p b w.0, eqb-true q a w.1))
    (or_true (eqb p a && eqb q b) (eqb p b && eqb q a) h)

true_joins : (p q a b : ℕ) → Joins (edge p q) a b → joins? p q a b ≡ true
true_joins p q a b (inl h) =
    true_or (eqb p a && eqb q b) (eqb p b && eqb q a) (inl (and_both (eqb p a) (eqb q b) (eq-eqb p a h.0) (eq-eqb q b h.1)))
true_joins p q a b (inr h) =
    true_or (eqb p a && eqb q b) (eqb p b && eqb q a) (inr (and_both (eqb p b) (eqb q a) (eq-eqb p b h.0) (eq-eqb q a h.1)))

has_true : (es : List Edge) (a b : ℕ) → has? es a b ≡ true → Has es a b
unfolding has?
has_true [] a b h = absurd (false≢true h)
has_true (edge p q ∷ es) a b h =
    ⊎_elim (λ e. inl (joins_true p q a b e)) (λ e. inr (has_true es a b e)) (or_true (joins? p q a b) (has? es a b) h)

true_has : (es : List Edge) (a b : ℕ) → Has es a b → has? es a b ≡ true
unfolding has?
true_has [] a b x' = elim x' [ ]
true_has (edge p q ∷ es) a b (inl h) = true_or (joins? p q a b) (has? es a b) (inl (true_joins p q a b h))
true_has (edge p q ∷ es) a b (inr h) = true_or (joins? p q a b) (has? es a b) (inr (true_has es a b h))

-- `has?` is true exactly when ab is one of the edges
pub has_exact : (es : List Edge) (a b : ℕ) → (has? es a b ≡ true) ↔ Has es a b
has_exact es a b = (has_true es a b, true_has es a b)
