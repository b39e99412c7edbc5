-- Laws of stored edges: one edge more or less, the two places that a new pair takes, and what a scan has found so far.
-- Assumes nothing.
use Prim.Native.Nat.{ℕ, zero, suc, ◌+◌, ◌-◌, ◌≤◌, ◌<◌}
use native.Mathlib.Omega.{arith}
use native.Mathlib.Numerals.{add-one}
use native.Mathlib.Decide.{ℕ_discrete}
use mathlib.Core.Path.{◌≡◌, refl, ap, ap₂, ◌∙◌, subst, subst⁻¹}
use mathlib.Core.Logic.{inl, inr, by_cases}
use mathlib.Core.Bool.{true, false}
use mathlib.Core.List.{List, ◌∷◌}
use lib.ListN.{length, get_or, set, length-set, replicate, get_or-replicate}
use lib.Seq.{get_or-set_same, get_or-set_other}
use Rattle.lengths.specs.Edge.{Edge, edge, Point}
use Rattle.sets.specs.EdgeSet.{Has, with_pair}
use Rattle.sets.specs.Joined.{joins?, has?}
use Rattle.sets.specs.Neighbours.{neighbours_of, seen}
use Rattle.sets.specs.asks.Stored.{edges_of, edge_list, Stored, Held, Added, Single, most_known, known_places}
use Rattle.sets.specs.declared.edge_set.EdgeSet.{EdgeSet}

-- one edge more
pub edges_of_up : (f t : List ℕ) (i : ℕ) → edges_of f t (i + 1) ≡ edge (get_or f i 0) (get_or t i 0) ∷ edges_of f t i
unfolding edges_of
edges_of_up f t i = rw add-one

-- one edge less
pub edges_of_down : (f t : List ℕ) (i : ℕ) → 0 < i → edges_of f t i ≡ edge (get_or f (i - 1) 0) (get_or t (i - 1) 0) ∷ edges_of f t (i - 1)
edges_of_down f t i h =
    let e : i ≡ i - 1 + 1 = omega arith in
    ap (λ (m : ℕ). edges_of f t m) e ∙ edges_of_up f t (i - 1)

-- v's neighbours in one edge more
pub neighbours_up : (f t : List ℕ) (i v : ℕ) → neighbours_of (edges_of f t (i + 1)) v ≡ seen (get_or f i 0) (get_or t i 0) v (neighbours_of (edges_of f t i) v)
unfolding neighbours_of
neighbours_up f t i v = rw edges_of_up

-- an edge that is there
pub has_here : (f t : List ℕ) (i a b : ℕ) → 0 < i → joins? (get_or f (i - 1) 0) (get_or t (i - 1) 0) a b ≡ true → has? (edges_of f t i) a b ≡ true
unfolding has?
has_here f t i a b h e = rw (edges_of_down f t i h, e)

-- an edge that is another
pub has_below : (f t : List ℕ) (i a b : ℕ) → 0 < i → joins? (get_or f (i - 1) 0) (get_or t (i - 1) 0) a b ≡ false
    → has? (edges_of f t i) a b ≡ has? (edges_of f t (i - 1)) a b
unfolding has?
has_below f t i a b h e = rw (edges_of_down f t i h, e)

-- no edge is left
pub has_none : (f t : List ℕ) (i a b : ℕ) → i ≤ 0 → has? (edges_of f t i) a b ≡ false
unfolding has? edges_of
has_none f t i a b h =
    let e : i ≡ 0 = omega arith in
    rw e

-- what is stored past the edges does not matter
edges_of-set : (f t : List ℕ) (i j u v m : ℕ) → m ≤ i → m ≤ j → edges_of (set f i u) (set t j v) m ≡ edges_of f t m
unfolding edges_of
edges_of-set f t i j u v zero h k = refl
edges_of-set f t i j u v (suc m) h k =
    rw (get_or-set_other f i m u 0 (omega arith), get_or-set_other t j m v 0 (omega arith), edges_of-set f t i j u v m (omega arith) (omega arith))

-- the two edges that a pair takes in
edges_of_pair : (f t : List ℕ) (m c x y : ℕ) → m + 1 < length f → m + 1 < length t
    → edges_of (set (set f m c) (m + 1) c) (set (set t m y) (m + 1) x) (m + 2) ≡ edge c x ∷ edge c y ∷ edges_of f t m
edges_of_pair f t m c x y hf ht =
    let F : List ℕ = set (set f m c) (m + 1) c in
    let T : List ℕ = set (set t m y) (m + 1) x in
    let two : m + 2 ≡ m + 1 + 1 = omega arith in
    let up₁ : edges_of F T (m + 1 + 1) ≡ edge (get_or F (m + 1) 0) (get_or T (m + 1) 0) ∷ edges_of F T (m + 1) = edges_of_up F T (m + 1) in
    let up₂ : edges_of F T (m + 1) ≡ edge (get_or F m 0) (get_or T m 0) ∷ edges_of F T m = edges_of_up F T m in
    let f₁ : get_or F (m + 1) 0 ≡ c = get_or-set_same (set f m c) (m + 1) c 0 (omega (arith, length-set f m c)) in
    let t₁ : get_or T (m + 1) 0 ≡ x = get_or-set_same (set t m y) (m + 1) x 0 (omega (arith, length-set t m y)) in
    let f₂ : get_or F m 0 ≡ c = get_or-set_other (set f m c) (m + 1) m c 0 (omega arith) ∙ get_or-set_same f m c 0 (omega arith) in
    let t₂ : get_or T m 0 ≡ y = get_or-set_other (set t m y) (m + 1) m x 0 (omega arith) ∙ get_or-set_same t m y 0 (omega arith) in
    let rest : edges_of F T m ≡ edges_of f t m =
    edges_of-set (set f m c) (set t m y) (m + 1) (m + 1) c x m (omega arith) (omega arith)
    ∙ edges_of-set f t m m c y m (omega arith) (omega arith)
    in
    ap (λ (j : ℕ). edges_of F T j) two ∙ up₁
    ∙ ap₂ (λ (e : Edge) (es : List Edge). e ∷ es) (ap₂ edge f₁ t₁) (up₂ ∙ ap₂ (λ (e : Edge) (es : List Edge). e ∷ es) (ap₂ edge f₂ t₂) rest)

-- the set after a pair was taken in
abbrev pub grown : (k : EdgeSet) → ℕ → ℕ → ℕ → k.count + 2 ≤ most_known → EdgeSet
grown k c x y h =
    record {
      from = set (set k.from k.count c) (k.count + 1) c;
      to = set (set k.to k.count y) (k.count + 1) x;
      count = k.count + 2;
      few = h;
    }

-- what holds of the stored points and of two more holds after these are set
points_pair : (P : ℕ → Type 0) (f : List ℕ) (m u v i : ℕ) → m + 1 < length f → ((j : ℕ) → j < m → P (get_or f j 0)) → P u → P v → i < m + 2
    → P (get_or (set (set f m u) (m + 1) v) i 0)
points_pair P f m u v i h old pu pv hi = by_cases (ℕ_discrete i (m + 1)) last other
  where
    last : i ≡ m + 1 → P (get_or (set (set f m u) (m + 1) v) i 0)
    last e =
        subst⁻¹ P (ap (λ (j : ℕ). get_or (set (set f m u) (m + 1) v) j 0) e ∙ get_or-set_same (set f m u) (m + 1) v 0 (omega (arith, length-set f m u))) pv

    inner : (i ≡ m + 1 → ⊥) → i ≡ m → P (get_or (set f m u) i 0)
    inner ne e = subst⁻¹ P (ap (λ (j : ℕ). get_or (set f m u) j 0) e ∙ get_or-set_same f m u 0 (omega arith)) pu

    below : (i ≡ m + 1 → ⊥) → (i ≡ m → ⊥) → P (get_or (set f m u) i 0)
    below ne ne' = subst⁻¹ P (get_or-set_other f m i u 0 ne') (old i (omega arith))

    other : (i ≡ m + 1 → ⊥) → P (get_or (set (set f m u) (m + 1) v) i 0)
    other ne = subst⁻¹ P (get_or-set_other (set f m u) (m + 1) i v 0 ne) (by_cases (ℕ_discrete i m) (inner ne) (below ne))

-- it is the set with the pair's two edges
pub added : (k : EdgeSet) (c x y : ℕ) → length k.from ≡ known_places → length k.to ≡ known_places → (h : k.count + 2 ≤ most_known)
    → Added k c x y (grown k c x y h)
unfolding edge_list with_pair
added k c x y f t h =
    record {
      edges = edges_of_pair k.from k.to k.count c x y (omega (arith, f)) (omega (arith, t));
      two = refl;
      stored = st;
      held = held';
    }
  where
    st : Stored (grown k c x y h)
    st =
        record {
          from_size = length-set (set k.from k.count c) (k.count + 1) c ∙ length-set k.from k.count c ∙ f;
          to_size = length-set (set k.to k.count y) (k.count + 1) x ∙ length-set k.to k.count y ∙ t;
          few = h;
        }

    held' : (n : ℕ) → Held n k → Point n c → Point n x → Point n y → Held n (grown k c x y h)
    held' n old pc px py =
        record {
          stored = st;
          points =
              record {
                from_point = λ i hi. points_pair (Point n) k.from k.count c c i (omega (arith, f)) old.points.from_point pc pc hi;
                to_point = λ i hi. points_pair (Point n) k.to k.count y x i (omega (arith, t)) old.points.to_point py px hi;
              };
        }

-- the set of one edge
abbrev pub lone : ℕ → ℕ → 1 ≤ most_known → EdgeSet
lone a b h = record { from = replicate known_places a; to = replicate known_places b; count = 1; few = h }

pub single : (a b : ℕ) (h : 1 ≤ most_known) → Single a b (lone a b h)
unfolding edge_list edges_of
single a b h =
    record {
      edges = refl;
      one = refl;
      stored = st;
      held = λ n pa pb.
          record {
            stored = st;
            points =
                record {
                  from_point = λ i h. subst⁻¹ (Point n) (get_or-replicate known_places i a 0 (omega arith)) pa;
                  to_point = λ i h. subst⁻¹ (Point n) (get_or-replicate known_places i b 0 (omega arith)) pb;
                };
          };
    }
  where
    st : Stored (lone a b h)
    st = record { from_size = refl; to_size = refl; few = h }

-- every edge of a held set joins points of 1 to n
edges_held : (n : ℕ) (f t : List ℕ) (m : ℕ) → ((i : ℕ) → i < m → Point n (get_or f i 0)) → ((i : ℕ) → i < m → Point n (get_or t i 0)) → (a b : ℕ)
    → Has (edges_of f t m) a b → Point n a × Point n b
unfolding edges_of
edges_held n f t zero pf pt a b h = absurd h
edges_held n f t (suc m) pf pt a b (inl (inl h)) = (subst (Point n) h.0 (pf m (omega arith)), subst (Point n) h.1 (pt m (omega arith)))
edges_held n f t (suc m) pf pt a b (inl (inr h)) = (subst (Point n) h.1 (pt m (omega arith)), subst (Point n) h.0 (pf m (omega arith)))
edges_held n f t (suc m) pf pt a b (inr h) = edges_held n f t m (λ i k. pf i (omega arith)) (λ i k. pt i (omega arith)) a b h

pub held_points : (n : ℕ) (k : EdgeSet) → Held n k → (a b : ℕ) → Has (edge_list k) a b → Point n a × Point n b
unfolding edge_list
held_points n k h a b e = edges_held n k.from k.to k.count h.points.from_point h.points.to_point a b e
