-- The path that `follow` follows, one point at a time, as the code counts them. Assumes nothing.
use Prim.Native.Nat.{ℕ, zero, suc, ◌+◌, ◌-◌, ◌≤◌, ◌<◌}
use native.Mathlib.Omega.{arith}
use mathlib.Core.Path.{◌≡◌, refl, sym, ap, ◌∙◌}
use mathlib.Core.List.{List, [], ◌∷◌, ◌++◌}
use lib.ListN.{length, length-append}
use lib.Seq.{take_all}
use borrow.Author.Tests.{eq-eqb, ne_eqb}
use Rattle.lengths.specs.Edge.{Edge}
use Rattle.sets.specs.Neighbours.{neighbours_of, beyond}
use Rattle.sets.specs.asks.Stored.{most_known, edges_of, edge_list}
use Rattle.sets.specs.declared.edge_set.EdgeSet.{EdgeSet}
use Rattle.sets.specs.declared.neighbours.PathStep.{PathStep}
use Rattle.sets.specs.declared.neighbours.PathStep.TheVariants.{Stop, On, Fork}
use Rattle.segments.specs.SegmentTest.{led_to, followed, over}
use Rattle.segments.specs.asks.Order.{order_list, NamesNone, NamesThen}
use Rattle.segments.specs.asks.Segment.{Names}
use Rattle.segments.specs.declared.order.Order.{Order}

length_edges : (f t : List ℕ) (m : ℕ) → length (edges_of f t m) ≡ m
unfolding edges_of
length_edges f t zero = refl
length_edges f t (suc m) = ap suc (length_edges f t m)

-- the way over a takes at most as many steps as the set has edges
pub over_stored : (k : EdgeSet) (u v a : ℕ) → followed (k.count - 0) (edge_list k) u v u a [] ≡ over (edge_list k) u v a
unfolding over edge_list
over_stored k u v a =
    let e : length (edges_of k.from k.to k.count) ≡ k.count - 0 = omega (arith, length_edges k.from k.to k.count) in
    rw e

one_less : (n p : ℕ) → p < n → n - p ≡ suc (n - (p + 1))
one_less n p h = omega arith

module _ (most i : ℕ) (K : List Edge) (u v from at : ℕ) (passed : List ℕ) where
  -- no step is left
  pub follow_end : most ≤ i → followed (most - i) K u v from at passed ≡ []
  unfolding followed
  follow_end h =
      let e : most - i ≡ 0 = omega arith in
      rw e

  -- v is here
  pub follow_here : i < most → at ≡ v → followed (most - i) K u v from at passed ≡ passed
  unfolding followed
  follow_here h e = rw (one_less most i h, eq-eqb at v e)

  -- the path is back at u
  pub follow_back : i < most → (at ≡ v → ⊥) → at ≡ u → followed (most - i) K u v from at passed ≡ []
  unfolding followed
  follow_back h e b = rw (one_less most i h, ne_eqb at v e, eq-eqb at u b)

  -- the path goes on as `beyond` says
  pub follow_step : {m : PathStep} → i < most → (at ≡ v → ⊥) → (at ≡ u → ⊥) → beyond (neighbours_of K at) from ≡ m
      → followed (most - i) K u v from at passed ≡ led_to m (λ w. followed (most - (i + 1)) K u v at w (passed ++ at ∷ []))
  unfolding followed
  follow_step h e b s = rw (one_less most i h, ne_eqb at v e, ne_eqb at u b, s)

-- what is found over a is what is found from `at` on, with the i points of the order passed, and v is not the first
pub record Followed (k : EdgeSet) (u a v : ℕ) (order : Order) (from at i : ℕ) : Type 0 where
  pub passed : length (order_list order) ≡ i
  pub same : followed (k.count - i) (edge_list k) u v from at (order_list order) ≡ over (edge_list k) u v a
  pub apart : i ≡ 0 → at ≡ v → ⊥

-- at the start none is passed
pub followed_start : (k : EdgeSet) (u a v : ℕ) (order : Order) → NamesNone order → (a ≡ v → ⊥) → Followed k u a v order u a 0
followed_start k u a v order none apart =
    record {
      passed = ap length none.names;
      same = ap (λ (ps : List ℕ). followed (k.count - 0) (edge_list k) u v u a ps) none.names ∙ over_stored k u v a;
      apart = λ z. apart;
    }

-- a list of no points
none_left : (xs : List ℕ) → xs ≡ [] → length xs ≡ 0
none_left xs e = ap length e

module _ {k : EdgeSet} {u a v : ℕ} {order : Order} {from at i : ℕ} (w : Followed k u a v order from at i) where
  pub found_here : i < k.count → at ≡ v → Names (over (edge_list k) u v a) order
  found_here h e =
      let is : over (edge_list k) u v a ≡ order_list order = sym w.same ∙ follow_here k.count i (edge_list k) u v from at (order_list order) h e in
      record {
        points = sym is;
        some = λ z. w.apart (omega (arith, w.passed, none_left (order_list order) (sym is ∙ z))) e;
        few = omega (arith, ap length is, w.passed, k.few);
      }

  pub found_end : k.count ≤ i → over (edge_list k) u v a ≡ []
  found_end h = sym w.same ∙ follow_end k.count i (edge_list k) u v from at (order_list order) h

  pub found_back : i < k.count → (at ≡ v → ⊥) → at ≡ u → over (edge_list k) u v a ≡ []
  found_back h e b = sym w.same ∙ follow_back k.count i (edge_list k) u v from at (order_list order) h e b

  module _ (h : i < k.count) (e : at ≡ v → ⊥) (b : at ≡ u → ⊥) where
    step : {m : PathStep} → beyond (neighbours_of (edge_list k) at) from ≡ m
        → over (edge_list k) u v a ≡ led_to m (λ x. followed (k.count - (i + 1)) (edge_list k) u v at x (order_list order ++ at ∷ []))
    step s = sym w.same ∙ follow_step k.count i (edge_list k) u v from at (order_list order) h e b s

    pub found_none : (m : PathStep) → beyond (neighbours_of (edge_list k) at) from ≡ m → ((x : ℕ) → m ≡ On x → ⊥) → over (edge_list k) u v a ≡ []
    unfolding led_to
    found_none Stop s other = step s
    found_none (On x) s other = absurd (other x refl)
    found_none Fork s other = step s

    pub found_on : (x : ℕ) {order' : Order} → beyond (neighbours_of (edge_list k) at) from ≡ On x → NamesThen order at order' → Followed k u a v order' at x (i + 1)
    unfolding led_to
    found_on x {order'} s t =
        let longer : length (order_list order ++ at ∷ []) ≡ i + 1 = omega (arith, length-append (order_list order) (at ∷ []), w.passed) in
        let all : order_list order' ≡ order_list order ++ at ∷ [] = t.names ∙ take_all most_known (order_list order ++ at ∷ []) (omega (arith, longer, k.few)) in
        record {
          passed = ap length all ∙ longer;
          same = ap (λ (ps : List ℕ). followed (k.count - (i + 1)) (edge_list k) u v at x ps) all ∙ sym (step s);
          apart = λ z. absurd (omega arith);
        }
