-- K = {ab}: conditions 2 and 3 are one test of the pair. At a point c that is neither a nor b they rule out the pair a,
-- b and no other: c has no neighbour in K; beyond c a has b, b has a, and no other point has anything; and c, a, b
-- would be a cycle of three. At an end c of the edge they ask that the other end be one of the pair: it is c's one
-- neighbour, and no point but c has anything beyond c. Assumes nothing.
use Prim.Native.Nat.{ℕ, zero, suc, ◌-◌, ◌≤◌}
use mathlib.Core.Path.{◌≡◌, refl, sym, ◌∙◌, ap}
use mathlib.Core.Bool.{Bool, true, false, not, ◌&&◌, ◌||◌}
use mathlib.Core.List.{List, [], ◌∷◌}
use native.Mathlib.Omega.{arith}
use native.Mathlib.Decide.{ℕ_discrete}
use lib.Dec.{eqb}
use borrow.Author.Tests.{eq-eqb, ne_eqb}
use Rattle.lengths.specs.Edge.{Edge, edge, Point, edges}
use Rattle.lengths.specs.asks.Edge.{IsEdgeUp}
use Rattle.lengths.specs.Table.{length_of, Lengths}
use Rattle.sets.specs.Joined.{joins?}
use Rattle.sets.specs.Neighbours.{neighbours_of, either?, within?, beyond}
use Rattle.search.specs.asks.Pairs.{passes?}
use Rattle.rules.specs.PairTest.{feasible?}
use Rattle.rules.specs.Pairs.{keep, feasible_pairs}
use Rattle.sets.specs.Shape.{reaches?, shuts?, shape?}
use Rattle.search.specs.asks.Split.{Prepared}
use Rattle.sets.specs.declared.neighbours.Neighbours.TheVariants.{One}
use Rattle.sets.specs.declared.neighbours.PathStep.TheVariants.{Stop, On}
use Rattle.lists.proofs.Bools.{and_yes}
use Rattle.rules.proofs.PairLists.{PairsInOrder, order_edges, keep_yes, keep_no}
use Rattle.search.proofs.OneComparison.{feasible_passes}

-- c is no point of the edge

-- the first point of the path is met at once
reaches_at_once : (f : ℕ) (K : List Edge) (from at y : ℕ) → 1 ≤ f → at ≡ y → reaches? f K from at y ≡ true
unfolding reaches?
reaches_at_once zero K from at y h e = absurd (omega arith)
reaches_at_once (suc f) K from at y h e = rw (eq-eqb at y e)

module _ (a b c : ℕ) (apart : a ≡ b → ⊥) (c-a : c ≡ a → ⊥) (c-b : c ≡ b → ⊥) where
  at_centre : (x y : ℕ) → within? (neighbours_of (edge a b ∷ []) c) x y ≡ true
  unfolding neighbours_of within?
  at_centre x y = rw (ne_eqb a c (λ e. c-a (sym e)), ne_eqb b c (λ e. c-b (sym e)))

  beyond_first : (x : ℕ) → a ≡ x → beyond (neighbours_of (edge a b ∷ []) x) c ≡ On b
  unfolding neighbours_of
  beyond_first x e = rw (eq-eqb a x e, ne_eqb b c (λ e. c-b (sym e)))

  beyond_second : (x : ℕ) → b ≡ x → beyond (neighbours_of (edge a b ∷ []) x) c ≡ On a
  unfolding neighbours_of
  beyond_second x e = rw (ne_eqb a x (λ q. apart (q ∙ sym e)), eq-eqb b x e, ne_eqb a c (λ e. c-a (sym e)))

  beyond_other : (x : ℕ) → (a ≡ x → ⊥) → (b ≡ x → ⊥) → beyond (neighbours_of (edge a b ∷ []) x) c ≡ Stop
  unfolding neighbours_of
  beyond_other x h g = rw (ne_eqb a x h, ne_eqb b x g)

  module _ (n : ℕ) (least : 4 ≤ n) (x y : ℕ) (x_y : x ≡ y → ⊥) where
    shuts_pair : shuts? n (edge a b ∷ []) x y (beyond (neighbours_of (edge a b ∷ []) x) c) (beyond (neighbours_of (edge a b ∷ []) y) c) ≡ joins? a b x y
    shuts_pair = elim (ℕ_discrete a x) [
      | yes e ↦ elim (ℕ_discrete b y) [
        | yes f ↦ rw (beyond_first x e, beyond_second y f, reaches_at_once (n - 3) (edge a b ∷ []) x b y (omega arith) f, eq-eqb a x e, eq-eqb b y f)
        | no f ↦ rw (
          beyond_first x e,
          beyond_other y (λ g. x_y (sym e ∙ g)) f,
          eq-eqb a x e,
          ne_eqb b y f,
          ne_eqb a y (λ g. x_y (sym e ∙ g)),
        )
      ]
      | no e ↦ elim (ℕ_discrete b x) [
        | yes f ↦ elim (ℕ_discrete a y) [
          | yes g ↦ rw (
            beyond_second x f,
            beyond_first y g,
            reaches_at_once (n - 3) (edge a b ∷ []) x a y (omega arith) g,
            ne_eqb a x e,
            eq-eqb a y g,
            eq-eqb b x f,
          )
          | no g ↦ rw (beyond_second x f, beyond_other y g (λ h. x_y (sym f ∙ h)), ne_eqb a x e, ne_eqb a y g)
        ]
        | no f ↦ other e f
      ]
    ]
      where
        other : (a ≡ x → ⊥) → (b ≡ x → ⊥)
            → shuts? n (edge a b ∷ []) x y (beyond (neighbours_of (edge a b ∷ []) x) c) (beyond (neighbours_of (edge a b ∷ []) y) c) ≡ eqb a x && eqb b y || eqb a y && eqb b x
        other e f = elim (ℕ_discrete a y) [
          | yes g ↦ rw (beyond_other x e f, beyond_first y g, ne_eqb a x e, eq-eqb a y g, ne_eqb b x f)
          | no g ↦ elim (ℕ_discrete b y) [
            | yes h ↦ rw (beyond_other x e f, beyond_second y h, ne_eqb a x e, ne_eqb a y g)
            | no h ↦ rw (beyond_other x e f, beyond_other y g h, ne_eqb a x e, ne_eqb a y g)
          ]
        ]

    -- conditions 2 and 3 are one test
    shape_single : shape? n (edge a b ∷ []) c x y ≡ not (joins? a b x y)
    unfolding shape?
    shape_single = rw (at_centre x y, shuts_pair)

-- c is an end of the edge

-- c has the neighbour `other` and no more, and beyond c no other point has anything
pub record EndOf (K : List Edge) (c other : ℕ) : Type 0 where
  pub apart : other ≡ c → ⊥
  pub own : neighbours_of K c ≡ One other
  pub none : (v : ℕ) → (v ≡ c → ⊥) → beyond (neighbours_of K v) c ≡ Stop

module _ (a b : ℕ) (apart : a ≡ b → ⊥) where
  pub end_first : EndOf (edge a b ∷ []) a b
  unfolding neighbours_of
  end_first = record {
    apart = λ e. apart (sym e);
    own = rw (eq-eqb a a refl);
    none = λ v h. elim (ℕ_discrete b v) [
      | yes e ↦ rw (ne_eqb a v (λ g. h (sym g)), eq-eqb b v e, eq-eqb a a refl)
      | no e ↦ rw (ne_eqb a v (λ g. h (sym g)), ne_eqb b v e)
    ];
  }

  pub end_second : EndOf (edge a b ∷ []) b a
  unfolding neighbours_of
  end_second = record {
    apart = apart;
    own = rw (ne_eqb a b apart, eq-eqb b b refl);
    none = λ v h. elim (ℕ_discrete a v) [
      | yes e ↦ rw (eq-eqb a v e, eq-eqb b b refl)
      | no e ↦ rw (ne_eqb a v e, ne_eqb b v (λ g. h (sym g)))
    ];
  }

module _ {K : List Edge} {c other : ℕ} (end : EndOf K c other) (n x y : ℕ) (x_y : x ≡ y → ⊥) where
  beyond_own : (v : ℕ) → v ≡ c → beyond (neighbours_of K v) c ≡ On other
  beyond_own v e = ap (λ (u : ℕ). beyond (neighbours_of K u) c) e ∙ rw (end.own, ne_eqb other c end.apart)

  shuts_none : shuts? n K x y (beyond (neighbours_of K x) c) (beyond (neighbours_of K y) c) ≡ false
  shuts_none = elim (ℕ_discrete x c) [
    | yes e ↦ rw (beyond_own x e, end.none y (λ g. x_y (e ∙ sym g)))
    | no e ↦ elim (ℕ_discrete y c) [ yes f ↦ rw (end.none x e, beyond_own y f) | no f ↦ rw (end.none x e, end.none y f) ]
  ]

  shape_end : shape? n K c x y ≡ either? other x y
  unfolding shape? within?
  shape_end = rw (shuts_none, end.own) (and_yes (either? other x y))

-- which pairs are feasible

-- a pair is feasible exactly when it passes the comparison and is not a, b
pub single_feasible : {n : ℕ} {out table : List ℕ} {open? : ℕ → ℕ → Bool} {a b c : ℕ} {legs : List ℕ} {bound : ℕ}
    → Lengths n out → Lengths n table → Prepared n (length_of n out) (length_of n table) open? (edge a b ∷ []) c legs bound → 4 ≤ n → (a ≡ b → ⊥) → (c ≡ a → ⊥) → (c ≡ b → ⊥)
    → (x y : ℕ) → Point n x → Point n y → (x ≡ y → ⊥)
    → feasible? n (length_of n out) (length_of n table) open? (edge a b ∷ []) c x y ≡ passes? n table legs bound x y && not (joins? a b x y)
single_feasible {n} {out} {table} {open?} {a} {b} {c} {legs} {bound} f h p least apart c-a c-b x y px py x_y =
    feasible_passes f h p x y px py ∙ ap (λ (t : Bool). passes? n table legs bound x y && t) (shape_single a b c apart c-a c-b n least x y x_y)

-- two tests that agree on the pairs x < y of 1 to n keep the same pairs
keep_agree : (n : ℕ) (t u : ℕ → ℕ → Bool) → ((x y : ℕ) → IsEdgeUp n x y → t x y ≡ u x y) → (es : List Edge) → PairsInOrder n es → keep t es ≡ keep u es
unfolding keep
keep_agree n t u h [] ch = refl
keep_agree n t u h (edge x y ∷ es) ch = go (t x y) refl (keep_agree n t u h es ch.2)
  where
    go : (s : Bool) → t x y ≡ s → keep t es ≡ keep u es → keep t (edge x y ∷ es) ≡ keep u (edge x y ∷ es)
    go true e ih = keep_yes t x y es e ∙ ap (λ (fs : List Edge). edge x y ∷ fs) ih ∙ sym (keep_yes u x y es (sym (h x y ch.0) ∙ e))
    go false e ih = keep_no t x y es e ∙ ih ∙ sym (keep_no u x y es (sym (h x y ch.0) ∙ e))

-- the feasible pairs are those that a test keeps which passes a pair on the same terms
pub single_pairs : {n : ℕ} {out table : List ℕ} {open? : ℕ → ℕ → Bool} {a b c : ℕ} {legs : List ℕ} {bound : ℕ}
    → Lengths n out → Lengths n table → Prepared n (length_of n out) (length_of n table) open? (edge a b ∷ []) c legs bound → 4 ≤ n → (a ≡ b → ⊥) → (c ≡ a → ⊥) → (c ≡ b → ⊥)
    → (t : ℕ → ℕ → Bool) → ((x y : ℕ) → IsEdgeUp n x y → t x y ≡ passes? n table legs bound x y && not (joins? a b x y))
    → keep t (edges n) ≡ feasible_pairs n (length_of n out) (length_of n table) open? (edge a b ∷ []) c
unfolding feasible_pairs
single_pairs {n} {out} {table} {open?} {a} {b} {c} f h p least apart c-a c-b t same =
    keep_agree n t (feasible? n (length_of n out) (length_of n table) open? (edge a b ∷ []) c)
    (λ x y e.
    same x y e
    ∙ sym (single_feasible f h p least apart c-a c-b x y
    (record { low = e.low; high = omega (arith, e.up, e.high) })
    (record { low = omega (arith, e.low, e.up); high = e.high })
    (λ q. omega (arith, e.up))))
    (edges n) (order_edges n)

-- at an end of the edge: a pair is feasible exactly when it passes the comparison and the other end is one of it
pub end_pairs : {n : ℕ} {out table : List ℕ} {open? : ℕ → ℕ → Bool} {K : List Edge} {c other : ℕ} {legs : List ℕ} {bound : ℕ}
    → Lengths n out → Lengths n table → Prepared n (length_of n out) (length_of n table) open? K c legs bound → EndOf K c other
    → (t : ℕ → ℕ → Bool) → ((x y : ℕ) → IsEdgeUp n x y → t x y ≡ passes? n table legs bound x y && either? other x y)
    → keep t (edges n) ≡ feasible_pairs n (length_of n out) (length_of n table) open? K c
unfolding feasible_pairs
end_pairs {n} {out} {table} {open?} {K} {c} {other} {legs} {bound} f h p end t same =
    keep_agree n t (feasible? n (length_of n out) (length_of n table) open? K c)
    (λ x y e.
    same x y e
    ∙ ap (λ (s : Bool). passes? n table legs bound x y && s) (sym (shape_end end n x y (λ q. omega (arith, e.up))))
    ∙ sym (feasible_passes f h p x y
    (record { low = e.low; high = omega (arith, e.up, e.high) })
    (record { low = omega (arith, e.low, e.up); high = e.high })))
    (edges n) (order_edges n)
