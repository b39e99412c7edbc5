-- The pairs that `find_pairs` finds are the feasible ones of K = {ab}. At an end of the edge every pair that passes the
-- comparison and has the other end is feasible; at a point apart from it every pair that passes but ab itself, which
-- the row of its lower point bars. Assumes nothing.
use Prim.Native.Nat.{ℕ, ◌≤◌, ◌<◌}
use mathlib.Core.Path.{◌≡◌, refl, sym, ◌∙◌, ap, ap₂, subst}
use mathlib.Core.Bool.{Bool, false, not, ◌&&◌}
use mathlib.Core.List.{List, [], ◌∷◌}
use mathlib.Core.Logic.{◌⊎◌, inl, inr}
use native.Mathlib.Omega.{arith}
use native.Mathlib.Decide.{ℕ_discrete, dec_lt}
use lib.Dec.{eqb}
use lib.ListN.{length}
use borrow.Author.Tests.{eq-eqb, ne_eqb}
use Rattle.lengths.specs.Edge.{Edge, edge, edges}
use Rattle.lengths.specs.asks.Edge.{IsEdgeUp}
use Rattle.lengths.specs.Table.{length_of}
use Rattle.sets.specs.Joined.{joins?}
use Rattle.marks.specs.Mark.{pending_mark, unstruck_in}
use Rattle.search.specs.asks.Pairs.{passes?}
use Rattle.rules.specs.Pairs.{keep}
use Rattle.search.specs.asks.Split.{Prepared, SingleAsked, SplitOf}
use Rattle.sets.specs.asks.Stored.{Single}
use Rattle.sets.specs.declared.edge_set.EdgeSet.{EdgeSet}
use Rattle.search.proofs.SingleEdge.{EndOf, end_first, end_second, end_pairs, single_pairs}
use Rattle.enumeration.specs.Find.{pairs_at, numbers_of}
use Rattle.enumeration.specs.asks.Find.{barred?, unbarred?, barred_in, passes_apart?, at_end?, FindAsked, Found}

pub single_asked : {n : ℕ} {out put marks : List ℕ} {a b c : ℕ} {found : List ℕ} {k : EdgeSet} → FindAsked n out put marks a b c found → Single a b k → SingleAsked n out put marks k c
single_asked {n} g s = record { legs = g.legs; held = s.held n g.first g.second; one = s.one }

pub prepared_single : {n : ℕ} {out put marks : List ℕ} {a b c : ℕ} {k : EdgeSet} {legs : List ℕ} {bound : ℕ} → Single a b k → SplitOf pending_mark n out put marks k c legs bound
    → Prepared n (length_of n out) (length_of n put) (unstruck_in n marks) (edge a b ∷ []) c legs bound
prepared_single {n} {out} {put} {marks} {c = c} {legs = legs} {bound = bound} k p = subst (λ (K : List Edge). Prepared n (length_of n out) (length_of n put) (unstruck_in n marks) K c legs bound) k.edges p.prepared

same_found : {ps qs : List Edge} {count : ℕ} {found : List ℕ} → ps ≡ qs → Found ps count found → Found qs count found
same_found e f = record { counted = f.counted ∙ ap length e; front = f.front ∙ ap numbers_of e; few = f.few; room = f.room }

-- c is a point of ab

module _ {n : ℕ} {out put marks : List ℕ} {a b c : ℕ} {found₀ legs : List ℕ} {bound : ℕ} (g : FindAsked n out put marks a b c found₀)
    (p : Prepared n (length_of n out) (length_of n put) (unstruck_in n marks) (edge a b ∷ []) c legs bound) where
  end_found : {other count : ℕ} {found : List ℕ} → EndOf (edge a b ∷ []) c other → Found (keep (at_end? n put legs bound other) (edges n)) count found
      → Found (pairs_at n out put marks a b c) count found
  unfolding pairs_at at_end?
  end_found {other} e f = same_found (end_pairs g.legs.intervals.out_lengths g.legs.intervals.put_lengths p e (at_end? n put legs bound other) (λ x y u. refl)) f

  pub first_found : {count : ℕ} {found : List ℕ} → c ≡ a → Found (keep (at_end? n put legs bound b) (edges n)) count found → Found (pairs_at n out put marks a b c) count found
  first_found e f = end_found (subst (λ (v : ℕ). EndOf (edge a b ∷ []) v b) (sym e) (end_first a b g.apart)) f

  pub second_found : {count : ℕ} {found : List ℕ} → c ≡ b → Found (keep (at_end? n put legs bound a) (edges n)) count found → Found (pairs_at n out put marks a b c) count found
  second_found e f = end_found (subst (λ (v : ℕ). EndOf (edge a b ∷ []) v a) (sym e) (end_second a b g.apart)) f

-- c is no point of ab

module _ (low high x z : ℕ) (rises : low < high) (first : 1 ≤ x) (up : x < z) where
  barred_here : x ≡ low → barred? (barred_in low high x) z ≡ eqb z high
  barred_here e = rw (eq-eqb x low e)

  barred_elsewhere : (x ≡ low → ⊥) → barred? (barred_in low high x) z ≡ false
  barred_elsewhere h = rw (ne_eqb x low h)

  barred_up : barred? (barred_in low high x) z ≡ joins? low high x z
  barred_up = elim (ℕ_discrete x low) [
    | yes e ↦ elim (ℕ_discrete z high) [
      | yes f ↦ rw (barred_here e, eq-eqb z high f, eq-eqb low x (sym e), eq-eqb high z (sym f))
      | no f ↦ rw (
        barred_here e,
        ne_eqb z high f,
        eq-eqb low x (sym e),
        ne_eqb high z (λ g. f (sym g)),
        ne_eqb low z (λ g. omega arith),
      )
    ]
    | no e ↦ elim (ℕ_discrete low z) [
      | yes f ↦ rw (barred_elsewhere e, ne_eqb low x (λ g. e (sym g)), eq-eqb low z f, ne_eqb high x (λ g. omega arith))
      | no f ↦ rw (barred_elsewhere e, ne_eqb low x (λ g. e (sym g)), ne_eqb low z f)
    ]
  ]

  barred_down : barred? (barred_in low high x) z ≡ joins? high low x z
  barred_down = elim (ℕ_discrete x low) [
    | yes e ↦ elim (ℕ_discrete z high) [
      | yes f ↦ rw (
        barred_here e,
        eq-eqb z high f,
        ne_eqb high x (λ g. omega arith),
        eq-eqb high z (sym f),
        eq-eqb low x (sym e),
      )
      | no f ↦ rw (barred_here e, ne_eqb z high f, ne_eqb high x (λ g. omega arith), ne_eqb high z (λ g. f (sym g)))
    ]
    | no e ↦ elim (ℕ_discrete high z) [
      | yes f ↦ rw (
        barred_elsewhere e,
        ne_eqb high x (λ g. omega arith),
        eq-eqb high z f,
        ne_eqb low x (λ g. e (sym g)),
      )
      | no f ↦ elim (ℕ_discrete high x) [
        | yes g ↦ rw (barred_elsewhere e, eq-eqb high x g, ne_eqb low z (λ h. omega arith), ne_eqb high z f)
        | no g ↦ rw (barred_elsewhere e, ne_eqb high x g, ne_eqb high z f)
      ]
    ]
  ]

-- low and high are the points of ab
record Ordered (a b low high : ℕ) : Type 0 where
  rises : low < high
  points : ((a ≡ low) × (b ≡ high)) ⊎ ((a ≡ high) × (b ≡ low))

barred_edge : {a b low high : ℕ} → Ordered a b low high → (x z : ℕ) → 1 ≤ x → x < z → barred? (barred_in low high x) z ≡ joins? a b x z
barred_edge {a} {b} {low} {high} o x z first up = go o.points
  where
    go : ((a ≡ low) × (b ≡ high)) ⊎ ((a ≡ high) × (b ≡ low)) → barred? (barred_in low high x) z ≡ joins? a b x z
    go (inl e) = barred_up low high x z o.rises first up ∙ ap₂ (λ (p q : ℕ). joins? p q x z) (sym e.0) (sym e.1)
    go (inr e) = barred_down low high x z o.rises first up ∙ ap₂ (λ (p q : ℕ). joins? p q x z) (sym e.0) (sym e.1)

module _ {n : ℕ} {out put marks : List ℕ} {a b c : ℕ} {found₀ legs : List ℕ} {bound : ℕ} (g : FindAsked n out put marks a b c found₀)
    (p : Prepared n (length_of n out) (length_of n put) (unstruck_in n marks) (edge a b ∷ []) c legs bound) (c-a : c ≡ a → ⊥) (c-b : c ≡ b → ⊥) where
  apart_pairs : {low high : ℕ} → Ordered a b low high → keep (passes_apart? n put legs bound low high) (edges n) ≡ pairs_at n out put marks a b c
  unfolding pairs_at passes_apart? unbarred?
  apart_pairs {low} {high} o = single_pairs g.legs.intervals.out_lengths g.legs.intervals.put_lengths p g.least g.apart c-a c-b (passes_apart? n put legs bound low high) same
    where
      same : (x y : ℕ) → IsEdgeUp n x y → passes? n put legs bound x y && not (barred? (barred_in low high x) y) ≡ passes? n put legs bound x y && not (joins? a b x y)
      same x y u = ap (λ (t : Bool). passes? n put legs bound x y && not t) (barred_edge o x y u.low u.up)

  pub apart_up : {count : ℕ} {found : List ℕ} → a < b → Found (keep (passes_apart? n put legs bound a b) (edges n)) count found → Found (pairs_at n out put marks a b c) count found
  apart_up h f = same_found (apart_pairs (record { rises = h; points = inl (refl, refl) })) f

  pub apart_down : {count : ℕ} {found : List ℕ} → b ≤ a → Found (keep (passes_apart? n put legs bound b a) (edges n)) count found → Found (pairs_at n out put marks a b c) count found
  apart_down h f = same_found (apart_pairs (record { rises = below; points = inr (refl, refl) })) f
    where
      below : b < a
      below = elim (dec_lt b a) [ yes q ↦ q | no q ↦ absurd (g.apart (omega arith)) ]
