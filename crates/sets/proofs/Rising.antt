-- Rising lists: each edge stands once, and the edges tell the list. Assumes nothing.
use Prim.Native.Nat.{ℕ}
use mathlib.Core.Path.{◌≡◌, refl, sym, ◌∙◌, ap₂}
use mathlib.Core.Logic.{◌⊎◌, inl, inr, ⊎_elim}
use mathlib.Core.List.Memᴰ
use mathlib.Core.List.{List, [], ◌∷◌}
use native.Mathlib.Omega.{arith}
use Rattle.lengths.specs.Edge.{Edge, edge, Before}
use Rattle.sets.specs.Rising.{Among, Rising}

pub edge_first : {a b c d : ℕ} → edge a b ≡ edge c d → a ≡ c
edge_first e = cc

pub edge_second : {a b c d : ℕ} → edge a b ≡ edge c d → b ≡ d
edge_second e = cc

-- no edge stands before itself, and of two edges only one before the other
before_other : (a b c d : ℕ) → Before a b c d → edge c d ≡ edge a b → ⊥
before_other a b c d (inl h) e = omega (arith, edge_first e)
before_other a b c d (inr h) e = omega (arith, h.1, edge_second e)

before_one_way : (a b c d : ℕ) → Before a b c d → Before c d a b → ⊥
before_one_way a b c d (inl h) (inl g) = omega arith
before_one_way a b c d (inl h) (inr g) = omega (arith, g.0)
before_one_way a b c d (inr h) (inl g) = omega (arith, h.0)
before_one_way a b c d (inr h) (inr g) = omega (arith, h.1, g.1)

-- what rises has each edge once
pub rising_once : (a b : ℕ) (es : List Edge) → Rising (edge a b ∷ es) → Among es a b → ⊥
rising_once a b es r m = before_other a b a b (r.0 a b m) refl

-- Two rising lists with the same edges are the same list. If their first edges differed, each would stand further on
-- in the other list, and so before the other. So the first edges are the same, and neither stands again
-- in what follows.
pub rising_unique : (es fs : List Edge) → Rising es → Rising fs → ((x y : ℕ) → Among es x y → Among fs x y) → ((x y : ℕ) → Among fs x y → Among es x y) → es ≡ fs
rising_unique [] [] r q to from = refl
rising_unique [] (edge c d ∷ fs) r q to from = absurd (Memᴰ.not-nil (from c d (Memᴰ.head refl)))
rising_unique (edge a b ∷ es) [] r q to from = absurd (Memᴰ.not-nil (to a b (Memᴰ.head refl)))
rising_unique (edge a b ∷ es) (edge c d ∷ fs) r q to from =
    by (Memᴰ.cases_cons (to a b (Memᴰ.head refl))) (Memᴰ.cases_cons (from c d (Memᴰ.head refl))) (rising_unique es fs r.1 q.1)
  where
    Tails : Type 0
    Tails = ((x y : ℕ) → Among es x y → Among fs x y) → ((x y : ℕ) → Among fs x y → Among es x y) → es ≡ fs

    first : edge a b ≡ edge c d → Tails → edge a b ∷ es ≡ edge c d ∷ fs
    first e tails =
        ap₂ ◌∷◌ e
        (tails
        (λ x y m. ⊎_elim (λ h. absurd (before_other a b x y (r.0 x y m) (h ∙ sym e))) (λ k. k) (Memᴰ.cases_cons (to x y (Memᴰ.tail m))))
        (λ x y m. ⊎_elim (λ h. absurd (before_other c d x y (q.0 x y m) (h ∙ e))) (λ k. k) (Memᴰ.cases_cons (from x y (Memᴰ.tail m)))))

    by : (edge a b ≡ edge c d) ⊎ Among fs a b → (edge c d ≡ edge a b) ⊎ Among es c d → Tails → edge a b ∷ es ≡ edge c d ∷ fs
    by (inl e) g tails = first e tails
    by (inr m) (inl e) tails = first (sym e) tails
    by (inr m) (inr k) tails = absurd (before_one_way a b c d (r.0 c d k) (q.0 a b m))
