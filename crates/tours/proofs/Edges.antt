-- Lists of edges as sets, and an edge as a length: `mark p q` is 1 on the edge pq, in either order, and 0 on every
-- other, so that a list of edges has pq exactly when its total under `mark p q` is at least 1.
-- So each law of the lengths of tours is a law of which edges a tour uses.
-- Assumes nothing.
pub use Rattle.sets.proofs.Laws.Joined.{has_sym}
use Prim.Native.Nat.{ℕ, suc, ◌≤◌}
use mathlib.Core.Path.{◌≡◌, refl, sym, ◌∙◌, subst₂}
use mathlib.Core.Logic.Dec
use mathlib.Core.Logic.{inl, inr, ⊎_map}
use mathlib.Core.List.{List, [], ◌∷◌}
use lib.ListN.{length}
use native.Mathlib.Decide.{ℕ_discrete}
use native.Mathlib.Omega.{arith}
use Rattle.lengths.specs.Edge.{Edge, edge}
use Rattle.sets.specs.EdgeSet.{Joins, Has, path_edges, closed_edges}
use Rattle.tours.specs.Tour.{total, tour_length, Uses, Symmetric}
use Rattle.tours.proofs.Bit.{positive, bit, bit_true, bit_false, bit_fact, bit_cong, either_dec}

-- the edges es are edges of fs
abbrev pub Inside : List Edge → List Edge → Type 0
Inside es fs = (a b : ℕ) → Has es a b → Has fs a b

-- where one point is shared, the others are equal
pub joins_first : (c a b : ℕ) → Joins (edge c a) c b → a ≡ b
joins_first c a b (inl e) = e.1
joins_first c a b (inr e) = e.1 ∙ e.0

pub joins_second : (c a b : ℕ) → Joins (edge a c) c b → a ≡ b
joins_second c a b (inl e) = e.0 ∙ e.1
joins_second c a b (inr e) = e.0

-- an edge with a point that is neither of two others does not join those
pub joins_apart : (c a p q : ℕ) → (p ≡ c → ⊥) → (q ≡ c → ⊥) → Joins (edge c a) p q → ⊥
joins_apart c a p q hp hq (inl e) = hp (sym e.0)
joins_apart c a p q hp hq (inr e) = hq (sym e.0)

pub inside_nil : (fs : List Edge) → Inside [] fs
inside_nil fs a b h = absurd h

pub inside_cons : (es fs : List Edge) (p q : ℕ) → Has fs p q → Inside es fs → Inside (edge p q ∷ es) fs
inside_cons es fs p q h k a b (inl (inl e)) = subst₂ (λ (u v : ℕ). Has fs u v) e.0 e.1 h
inside_cons es fs p q h k a b (inl (inr e)) = subst₂ (λ (u v : ℕ). Has fs u v) e.1 e.0 (has_sym fs p q h)
inside_cons es fs p q h k a b (inr j) = k a b j

-- whether the edge ab is pq
pub joins_dec : (a b p q : ℕ) → Dec (Joins (edge a b) p q)
joins_dec a b p q = either_dec (Dec.and (ℕ_discrete a p) (ℕ_discrete b q)) (Dec.and (ℕ_discrete a q) (ℕ_discrete b p))

-- the length that is 1 on pq and 0 on every other edge
unfoldable pub mark : ℕ → ℕ → ℕ → ℕ → ℕ
mark p q a b = bit (joins_dec a b p q)

pub mark_self : (p q : ℕ) → mark p q p q ≡ 1
unfolding mark
mark_self p q = bit_true (joins_dec p q p q) (inl (refl, refl))

pub mark_true : (p q a b : ℕ) → Joins (edge a b) p q → mark p q a b ≡ 1
unfolding mark
mark_true p q a b h = bit_true (joins_dec a b p q) h

pub mark_fact : (p q a b : ℕ) → 1 ≤ mark p q a b → Joins (edge a b) p q
unfolding mark
mark_fact p q a b h = bit_fact (joins_dec a b p q) h

pub mark_false : (p q a b : ℕ) → (Joins (edge a b) p q → ⊥) → mark p q a b ≡ 0
unfolding mark
mark_false p q a b h = bit_false (joins_dec a b p q) h

-- an edge is the same in either order
turn_joins : (a b p q : ℕ) → Joins (edge a b) p q → Joins (edge b a) p q
turn_joins a b p q (inl h) = inr (h.1, h.0)
turn_joins a b p q (inr h) = inl (h.1, h.0)

pub mark_symmetric : (p q : ℕ) → Symmetric (mark p q)
unfolding mark
mark_symmetric p q a b = bit_cong (joins_dec a b p q) (joins_dec b a p q) (turn_joins a b p q) (turn_joins b a p q)

pub has_total : (es : List Edge) (p q : ℕ) → Has es p q → 1 ≤ total (mark p q) es
unfolding total
has_total [] p q x' = elim x' [ ]
has_total (edge a b ∷ es) p q (inl h) = omega (arith, mark_true p q a b h)
has_total (edge a b ∷ es) p q (inr h) = omega (arith, has_total es p q h)

pub total_has : (es : List Edge) (p q : ℕ) → 1 ≤ total (mark p q) es → Has es p q
unfolding total
total_has [] p q h = absurd (omega arith)
total_has (edge a b ∷ es) p q h = ⊎_map (mark_fact p q a b) (total_has es p q) (positive (mark p q a b) (total (mark p q) es) h)

-- t uses pq exactly when its length under the length that is 1 on pq alone is at least 1
pub uses_length : (t : List ℕ) (p q : ℕ) → Uses t p q → 1 ≤ tour_length (mark p q) t
unfolding tour_length
uses_length t p q h = has_total (closed_edges t) p q h

pub length_uses : (t : List ℕ) (p q : ℕ) → 1 ≤ tour_length (mark p q) t → Uses t p q
unfolding tour_length
length_uses t p q h = total_has (closed_edges t) p q h

-- the length that is 1 on every edge
abbrev pub one : ℕ → ℕ → ℕ
one a b = 1

total_one : (a : ℕ) (vs : List ℕ) (z : ℕ) → total one (path_edges a vs z) ≡ suc (length vs)
unfolding total path_edges
total_one a [] z = refl
total_one a (b ∷ vs) z = omega (arith, total_one b vs z)

-- a tour has as many edges as points
pub length_one : (t : List ℕ) → tour_length one t ≡ length t
unfolding tour_length total closed_edges
length_one [] = refl
length_one (a ∷ vs) = total_one a vs a
