-- Legs and bound: how each takes in one more edge of K, and that one comparison of them decides conditions 1, 4 and 5.
-- Assumes nothing.
use Prim.Native.Nat.{ℕ, ◌+◌, ◌-◌, ◌≤◌, min, max}
use mathlib.Core.Path.{◌≡◌, refl, sym, ◌∙◌, ap}
use mathlib.Core.Bool.{Bool, true, false, cond, not, ◌&&◌, ◌||◌}
use mathlib.Core.List.{List, [], ◌∷◌}
use native.Mathlib.Omega.{arith}
use lib.Dec.{eqb, leb, ltb}
use borrow.Author.Tests.{eq-eqb, ne_eqb, le-leb, lt-leb, leb-true, leb-false, ltb-true, ltb-false}
use Rattle.lists.proofs.Bools.{cond_same}
use Rattle.lengths.specs.Edge.{Edge, edge}
use Rattle.lengths.specs.Instance.{most_length}
use Rattle.rules.specs.PairTest.{every, compatible?, leg?, stays?, unmoved?}
use Rattle.rules.specs.asks.Legs.{leg_of, narrowed, narrowed_by, far}
use Rattle.rules.specs.asks.Bound.{tightened, tightened_by, bound_of, loose}

-- legs

module _ (out put : ℕ → ℕ → ℕ) (open? : ℕ → ℕ → Bool) (c x : ℕ) where
  pub leg_of_self : x ≡ c → leg_of out put open? [] c x ≡ far
  unfolding leg_of leg?
  leg_of_self h = rw (leg_of, leg?, eq-eqb x c h)

  pub leg_of_shut : (x ≡ c → ⊥) → open? c x ≡ false → leg_of out put open? [] c x ≡ far
  unfolding leg_of leg?
  leg_of_shut h o = rw (leg_of, leg?, ne_eqb x c h, o)

  pub leg_of_open : (x ≡ c → ⊥) → open? c x ≡ true → leg_of out put open? [] c x ≡ out c x
  unfolding leg_of leg? every
  leg_of_open h o = rw (leg_of, leg?, ne_eqb x c h, o)

-- without edges of K a leg looks at one length only
pub leg_of_by : (l m out put : ℕ → ℕ → ℕ) (open? : ℕ → ℕ → Bool) (c x : ℕ) → l c x ≡ out c x → leg_of l m open? [] c x ≡ leg_of out put open? [] c x
unfolding leg_of leg? every
leg_of_by l m out put open? c x e = ap (λ (d : ℕ). cond (not (eqb x c) && (open? c x && true)) d far) e

narrow_tests : (a b e : Bool) (f : ℕ → Bool) (m far : ℕ) →
    cond (not a && (b && (f m && e))) m far ≡ cond (f (cond (not a && (b && e)) m far)) (cond (not a && (b && e)) m far) far
narrow_tests true b e f m far = sym (cond_same (f far) far)
narrow_tests false false e f m far = sym (cond_same (f far) far)
narrow_tests false true true f m far = go (f m)
  where
    go : (t : Bool) → cond (t && true) m far ≡ cond t m far
    go true = refl
    go false = refl
narrow_tests false true false f m far = go (f m) ∙ sym (cond_same (f far) far)
  where
    go : (t : Bool) → cond (t && false) m far ≡ far
    go true = refl
    go false = refl

-- a leg takes in one more edge
pub leg_of_narrowed : (out put : ℕ → ℕ → ℕ) (open? : ℕ → ℕ → Bool) (K : List Edge) (c x p q : ℕ)
    → leg_of out put open? (edge p q ∷ K) c x ≡ narrowed out put c p q x (leg_of out put open? K c x)
unfolding leg_of leg? narrowed every compatible?
leg_of_narrowed out put open? K c x p q =
    narrow_tests
    (eqb x c)
    (open? c x)
    (every (compatible? out put c x) K)
    (λ (m : ℕ). leb (m + out p q) (max (put c p + put x q) (put c q + put x p)))
    (out c x)
    far

module _ (m both one other : ℕ) where
  pub narrowed_at_most_far : m ≤ far → narrowed_by m both one other ≤ far
  narrowed_at_most_far h = go (leb both (max one other))
    where
      go : (t : Bool) → cond t m far ≤ far
      go true = h
      go false = omega arith

pub narrowed-by : (out put : ℕ → ℕ → ℕ) (c p q x m : ℕ) {pq cp cq qx px : ℕ} → pq ≡ out p q → cp ≡ put c p → cq ≡ put c q → qx ≡ put x q → px ≡ put x p
    → narrowed_by m (m + pq) (cp + qx) (cq + px) ≡ narrowed out put c p q x m
unfolding narrowed
narrowed-by out put c p q x m e1 e2 e3 e4 e5 = rw (e1, e2, e3, e4, e5)

-- the bound

pub tightened-by : (out put : ℕ → ℕ → ℕ) (c u v b : ℕ) {uv cu cv : ℕ} → uv ≡ out u v → cu ≡ put u c → cv ≡ put v c → tightened_by c u v uv cu cv b ≡ tightened out put c u v b
unfolding tightened
tightened-by out put c u v b e1 e2 e3 = rw (e1, e2, e3)

module _ (out put : ℕ → ℕ → ℕ) (c u v b : ℕ) where
  pub tightened_le : tightened out put c u v b ≤ b
  unfolding tightened
  tightened_le = go (eqb u c) (eqb v c)
    where
      go : (s t : Bool) → cond s b (cond t b (min (put u c + put v c + most_length - out u v) b)) ≤ b
      go true t = omega arith
      go false true = omega arith
      go false false = omega arith

pub bound_of_le : (out put : ℕ → ℕ → ℕ) (K : List Edge) (c : ℕ) → bound_of out put K c ≤ loose
unfolding bound_of
bound_of_le out put [] c = omega arith
bound_of_le out put (edge u v ∷ es) c = omega (arith, tightened_le out put c u v (bound_of out put es c), bound_of_le out put es c)

-- One comparison decides conditions 1, 4 and 5. Write M for 2,000,000, the most that a length can be, l for the lengths
-- of what is taken out, m for those of what is put in, and A for l(cx) + M + l(cy). Condition 5 at an edge uv that does
-- not touch c says l(uv) + l(xc) + l(yc) ≤ m(xy) + m(uc) + m(vc): with M on both sides that is A ≤ m(xy) + (m(uc) +
-- m(vc) + M - l(uv)), where nothing is negative (`room_test`). It holds at every edge exactly when it holds with the
-- least of these rooms, which is the bound (`min_test`, `unmoved_bound`); 6,000,000 is no less than A, so that it asks
-- nothing. A leg that meets conditions 1 and 4 enters with its length. One that does not enters as FAR, 10,000,000, and
-- FAR + M is more than m(xy) and the bound together, 8,000,000 at the most, so that the comparison fails as it
-- should (`legs_bound`).

min_test : (a x r b : ℕ) → leb a (x + min r b) ≡ leb a (x + r) && leb a (x + b)
min_test a x r b = go (leb a (x + r)) (leb a (x + b)) refl refl
  where
    go : (s t : Bool) → leb a (x + r) ≡ s → leb a (x + b) ≡ t → leb a (x + min r b) ≡ s && t
    go true true e f = le-leb a (x + min r b) (omega (arith, leb-true a (x + r) e, leb-true a (x + b) f))
    go true false e f = lt-leb a (x + min r b) (omega (arith, leb-false a (x + b) f))
    go false t e f = lt-leb a (x + min r b) (omega (arith, leb-false a (x + r) e))

module _ (out put : ℕ → ℕ → ℕ) (turns : (a b : ℕ) → out a b ≡ out b a) (out-small : (a b : ℕ) → out a b ≤ most_length) (put_small : (a b : ℕ) → put a b ≤ most_length) (c x y : ℕ) where
  -- condition 5 at one edge that does not touch c
  room_test : (u v : ℕ) → not (ltb (put x y + put u c + put v c) (out u v + out x c + out y c)) ≡ leb (out c x + most_length + out c y) (put x y + (put u c + put v c + most_length - out u v))
  room_test u v = go (ltb (put x y + put u c + put v c) (out u v + out x c + out y c)) refl
    where
      go : (s : Bool) → ltb (put x y + put u c + put v c) (out u v + out x c + out y c) ≡ s → not s ≡ leb (out c x + most_length + out c y) (put x y + (put u c + put v c + most_length - out u v))
      go true e = sym (lt-leb (out c x + most_length + out c y) (put x y + (put u c + put v c + most_length - out u v))
          (omega (arith, ltb-true (put x y + put u c + put v c) (out u v + out x c + out y c) e, turns c x, turns c y, out-small u v)))
      go false e = sym (le-leb (out c x + most_length + out c y) (put x y + (put u c + put v c + most_length - out u v))
          (omega (arith, ltb-false (put x y + put u c + put v c) (out u v + out x c + out y c) e, turns c x, turns c y, out-small u v)))

  step_test : (u v b : ℕ) → stays? out put c x y u v && leb (out c x + most_length + out c y) (put x y + b) ≡ leb (out c x + most_length + out c y) (put x y + tightened out put c u v b)
  unfolding stays? tightened
  step_test u v b = go (eqb u c) (eqb v c)
    where
      go : (s t : Bool) → (s || (t || not (ltb (put x y + put u c + put v c) (out u v + out x c + out y c)))) && leb (out c x + most_length + out c y) (put x y + b)
          ≡ leb (out c x + most_length + out c y) (put x y + cond s b (cond t b (min (put u c + put v c + most_length - out u v) b)))
      go true t = refl
      go false true = refl
      go false false = ap (λ (r : Bool). r && leb (out c x + most_length + out c y) (put x y + b)) (room_test u v)
          ∙ sym (min_test (out c x + most_length + out c y) (put x y) (put u c + put v c + most_length - out u v) b)

  -- condition 5 is one comparison with the bound
  pub unmoved_bound : (K : List Edge) → unmoved? out put K c x y ≡ leb (out c x + most_length + out c y) (put x y + bound_of out put K c)
  unfolding unmoved? every bound_of
  unmoved_bound [] = sym (le-leb (out c x + most_length + out c y) (put x y + loose) (omega (arith, out-small c x, out-small c y)))
  unmoved_bound (edge u v ∷ es) = ap (λ (t : Bool). stays? out put c x y u v && t) (unmoved_bound es) ∙ step_test u v (bound_of out put es c)

  -- conditions 1, 4 and 5 as far as they go by legs and by c: one comparison of the legs with the bound
  pub legs_bound : (K : List Edge) (s t : Bool)
      → leb (cond s (out c x) far + most_length + cond t (out c y) far) (put x y + bound_of out put K c) ≡ s && (t && unmoved? out put K c x y)
  legs_bound K true true = sym (unmoved_bound K)
  legs_bound K true false = lt-leb (out c x + most_length + far) (put x y + bound_of out put K c) (omega (arith, put_small x y, bound_of_le out put K c))
  legs_bound K false true = lt-leb (far + most_length + out c y) (put x y + bound_of out put K c) (omega (arith, put_small x y, bound_of_le out put K c))
  legs_bound K false false = lt-leb (far + most_length + far) (put x y + bound_of out put K c) (omega (arith, put_small x y, bound_of_le out put K c))
