-- The saving of a 3-opt closing is the best of its four labellings, and does not depend on the names of its points,
-- where lengths do not depend on the order of an edge's points: p and q, x and y, z and w may be swapped, and the
-- centres with their ends. Assumes nothing.
use Prim.Native.Nat.{ℕ, ◌+◌}
use mathlib.Core.Path.{◌≡◌, ◌∙◌, ap, ap₂}
use mathlib.Core.Logic.{◌⊎◌, inl, inr, ⊎_elim}
use native.Mathlib.Omega.{arith}
use lib.IntN.{ℤ}
use lib.Signed.{◌≤ℤ◌}
use Rattle.std.proofs.lemmas.Int.{ints, clamps}
use Rattle.lengths.specs.Saving.{saving, smaller, larger}
use Rattle.lengths.proofs.Extremes.{larger_is, larger_turned, larger_three, smaller_turned}
use Rattle.closings.specs.Closing.{first_saving, second_saving, label_saving, three_opt_saving}

-- the largest of four savings
module _ (a b c d : ℤ) where
  abbrev largest : ℤ
  largest = larger a (larger b (larger c d))

  largest_is : (a ≤ℤ largest) × (b ≤ℤ largest) × (c ≤ℤ largest) × (d ≤ℤ largest)
      × ((largest ≡ a) ⊎ ((largest ≡ b) ⊎ ((largest ≡ c) ⊎ (largest ≡ d))))
  largest_is = (
    omega (arith, ints, clamps),
    omega (arith, ints, clamps),
    omega (arith, ints, clamps),
    omega (arith, ints, clamps),
    ⊎_elim inl
        (λ e. inr (⊎_elim (λ f. inl (e ∙ f)) (λ f. inr (⊎_elim (λ g. inl (e ∙ f ∙ g)) (λ g. inr (e ∙ f ∙ g)) (larger_is c d).2))
        (larger_is b (larger c d)).2))
        (larger_is a (larger b (larger c d))).2,
  )

  -- in other orders
  pairs_turned : larger b (larger a (larger d c)) ≡ largest
  pairs_turned = larger_three b a (larger d c) ∙ ap (λ (m : ℤ). larger a (larger b m)) (larger_turned d c)

  halves_turned : larger c (larger d (larger a b)) ≡ largest
  halves_turned =
      ap (larger c) (larger_three d a b ∙ ap (larger a) (larger_turned d b))
      ∙ larger_three c a (larger b d)
      ∙ ap (larger a) (larger_three c b d)

  middle_turned : larger a (larger c (larger b d)) ≡ largest
  middle_turned = ap (larger a) (larger_three c b d)

all_turned : (a b c d : ℤ) → larger d (larger c (larger b a)) ≡ larger a (larger b (larger c d))
all_turned a b c d = pairs_turned c d a b ∙ halves_turned a b c d

-- THE BEST OF FOUR LABELLINGS: none saves more, and one saves as much
pub three_opt_best : (out put : ℕ → ℕ → ℕ) (p q r s x y z w : ℕ)
    → (label_saving out put p q r s x y z w ≤ℤ three_opt_saving out put p q r s x y z w)
    × (label_saving out put p q r s x y w z ≤ℤ three_opt_saving out put p q r s x y z w)
    × (label_saving out put p q r s y x z w ≤ℤ three_opt_saving out put p q r s x y z w)
    × (label_saving out put p q r s y x w z ≤ℤ three_opt_saving out put p q r s x y z w)
    × ((three_opt_saving out put p q r s x y z w ≡ label_saving out put p q r s x y z w)
    ⊎ ((three_opt_saving out put p q r s x y z w ≡ label_saving out put p q r s x y w z)
    ⊎ ((three_opt_saving out put p q r s x y z w ≡ label_saving out put p q r s y x z w)
    ⊎ (three_opt_saving out put p q r s x y z w ≡ label_saving out put p q r s y x w z))))
unfolding three_opt_saving
three_opt_best out put p q r s x y z w =
    largest_is (label_saving out put p q r s x y z w) (label_saving out put p q r s x y w z)
    (label_saving out put p q r s y x z w) (label_saving out put p q r s y x w z)

-- savings of equal sums
same_saving : (a b c d : ℕ) → a ≡ b → c ≡ d → saving a c ≡ saving b d
same_saving a b c d e f = ap₂ (λ (u v : ℕ). saving u v) e f

module _ (out put : ℕ → ℕ → ℕ) (p q r s : ℕ) where
  -- the other ends of a centre, swapped: the labellings are the same four
  pub three_opt_ends_r : (x y z w : ℕ) → three_opt_saving out put p q r s y x z w ≡ three_opt_saving out put p q r s x y z w
  unfolding three_opt_saving
  three_opt_ends_r x y z w =
      halves_turned (label_saving out put p q r s x y z w) (label_saving out put p q r s x y w z)
      (label_saving out put p q r s y x z w) (label_saving out put p q r s y x w z)

  pub three_opt_ends_s : (x y z w : ℕ) → three_opt_saving out put p q r s x y w z ≡ three_opt_saving out put p q r s x y z w
  unfolding three_opt_saving
  three_opt_ends_s x y z w =
      pairs_turned (label_saving out put p q r s x y z w) (label_saving out put p q r s x y w z)
      (label_saving out put p q r s y x z w) (label_saving out put p q r s y x w z)

  module _ (out-turned : (a b : ℕ) → out a b ≡ out b a) (put-turned : (a b : ℕ) → put a b ≡ put b a) where
    -- p and q: the first move by one naming is the second by the other
    pub first_edge : (x w : ℕ) → first_saving out put q p r s x w ≡ second_saving out put p q r s x w
    unfolding first_saving second_saving
    first_edge x w =
        same_saving (out q p + out r x + out s w) (out p q + out r x + out s w) (put r s + put q x + put p w) (put r s + put p w + put q x)
        (omega (arith, out-turned q p)) (omega arith)

    second_edge : (y z : ℕ) → second_saving out put q p r s y z ≡ first_saving out put p q r s y z
    unfolding first_saving second_saving
    second_edge y z =
        same_saving (out q p + out r y + out s z) (out p q + out r y + out s z) (put r s + put q z + put p y) (put r s + put p y + put q z)
        (omega (arith, out-turned q p)) (omega arith)

    label_edge : (x y z w : ℕ) → label_saving out put q p r s x y z w ≡ label_saving out put p q r s y x w z
    unfolding label_saving
    label_edge x y z w =
        ap₂ smaller (first_edge x w) (second_edge y z)
        ∙ smaller_turned (second_saving out put p q r s x w) (first_saving out put p q r s y z)

    pub three_opt_edge : (x y z w : ℕ) → three_opt_saving out put q p r s x y z w ≡ three_opt_saving out put p q r s x y z w
    unfolding three_opt_saving
    three_opt_edge x y z w =
        ap₂ larger (label_edge x y z w) (ap₂ larger (label_edge x y w z) (ap₂ larger (label_edge y x z w) (label_edge y x w z)))
        ∙ all_turned (label_saving out put p q r s x y z w) (label_saving out put p q r s x y w z)
        (label_saving out put p q r s y x z w) (label_saving out put p q r s y x w z)

    -- the centres with their ends: again the first move is the second
    first_centres : (z y : ℕ) → first_saving out put p q s r z y ≡ second_saving out put p q r s y z
    unfolding first_saving second_saving
    first_centres z y =
        same_saving (out p q + out s z + out r y) (out p q + out r y + out s z) (put s r + put p z + put q y) (put r s + put p z + put q y)
        (omega arith) (omega (arith, put-turned s r))

    second_centres : (w x : ℕ) → second_saving out put p q s r w x ≡ first_saving out put p q r s x w
    unfolding first_saving second_saving
    second_centres w x =
        same_saving (out p q + out s w + out r x) (out p q + out r x + out s w) (put s r + put p x + put q w) (put r s + put p x + put q w)
        (omega arith) (omega (arith, put-turned s r))

    label_centres : (x y z w : ℕ) → label_saving out put p q s r z w x y ≡ label_saving out put p q r s x y z w
    unfolding label_saving
    label_centres x y z w =
        ap₂ smaller (first_centres z y) (second_centres w x)
        ∙ smaller_turned (second_saving out put p q r s y z) (first_saving out put p q r s x w)

    pub three_opt_centres : (x y z w : ℕ) → three_opt_saving out put p q s r z w x y ≡ three_opt_saving out put p q r s x y z w
    unfolding three_opt_saving
    three_opt_centres x y z w =
        ap₂ larger (label_centres x y z w) (ap₂ larger (label_centres y x z w) (ap₂ larger (label_centres x y w z) (label_centres y x w z)))
        ∙ middle_turned (label_saving out put p q r s x y z w) (label_saving out put p q r s x y w z)
        (label_saving out put p q r s y x z w) (label_saving out put p q r s y x w z)
