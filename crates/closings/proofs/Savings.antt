-- The savings of a 3-opt closing, as 01's inequalities: a labelling saves exactly when both moves shorten, and the best
-- of the four saves exactly when one does. Assumes nothing.
use Prim.Native.Nat.{ℕ, ◌+◌, ◌^◌, ◌<◌}
use mathlib.Core.Path.{◌≡◌, sym, ◌∙◌, ap, ap₂}
use mathlib.Core.Bool.{Bool, ◌&&◌, ◌||◌}
use mathlib.Core.Logic.{◌↔◌}
use mathlib.Core.List.{List}
use lib.Dec.{ltb}
use lib.IntN.{ℤ, pos}
use lib.Signed.{mag, lt_z}
use mir.Syntax.{w64}
use mir.Val.{to_z, of_z}
use borrow.Author.Tests.{ltb-true, lt-ltb}
use Rattle.lengths.specs.Saving.{gains?}
use Rattle.lists.proofs.Bools.{and_left, and_right, and_both}
use Rattle.lengths.proofs.SignedSavings.{kept}
use Rattle.lengths.proofs.Savings.{gains_above, gains_iff, gains_smaller, gains_larger}
use Rattle.closings.specs.Closing.{first_saving, second_saving, label_saving, three_opt_saving, Saves}
use Rattle.lengths.specs.Table.{length_of}
use Rattle.lengths.proofs.Tables.{length_symmetric}
use Rattle.closings.proofs.SavingNames.{first_edge}
use Rattle.closings.specs.ClosingTest.{saves?, labelling?}

module _ (out put : ℕ → ℕ → ℕ) (p q r s x y z w : ℕ) where
  pub first_test : gains? (first_saving out put p q r s x w) ≡ ltb (put r s + put p x + put q w) (out p q + out r x + out s w)
  unfolding first_saving
  first_test = gains_iff (out p q + out r x + out s w) (put r s + put p x + put q w)

  pub second_test : gains? (second_saving out put p q r s y z) ≡ ltb (put r s + put p z + put q y) (out p q + out r y + out s z)
  unfolding second_saving
  second_test = gains_iff (out p q + out r y + out s z) (put r s + put p z + put q y)

  label_tests : gains? (label_saving out put p q r s x y z w) ≡ ltb (put r s + put p x + put q w) (out p q + out r x + out s w) && ltb (put r s + put p z + put q y) (out p q + out r y + out s z)
  unfolding label_saving
  label_tests = gains_smaller (first_saving out put p q r s x w) (second_saving out put p q r s y z) ∙ ap₂ (λ (a b : Bool). a && b) first_test second_test

  abbrev first : Bool
  first = ltb (put r s + put p x + put q w) (out p q + out r x + out s w)

  abbrev second : Bool
  second = ltb (put r s + put p z + put q y) (out p q + out r y + out s z)

  pub saves_sums : Saves out put p q r s x y z w ↔ ((put r s + put p x + put q w < out p q + out r x + out s w) × (put r s + put p z + put q y < out p q + out r y + out s z))
  saves_sums = (
    λ h. (ltb-true _ _ (and_left first second (sym label_tests ∙ h)), ltb-true _ _ (and_right first second (sym label_tests ∙ h))),
    λ h. label_tests ∙ and_both first second (lt-ltb _ _ h.0) (lt-ltb _ _ h.1),
  )

-- these are the code's tests
module _ (out put : ℕ → ℕ → ℕ) (p q r s x y z w : ℕ) where
  pub label_test : gains? (label_saving out put p q r s x y z w) ≡ saves? out put p q r s x y z w
  unfolding saves?
  label_test = label_tests out put p q r s x y z w

  -- as the code takes them one after the other
  pub saves_law : saves? out put p q r s x y z w ≡ gains? (first_saving out put p q r s x w) && gains? (second_saving out put p q r s y z)
  unfolding saves?
  saves_law = ap₂ (λ (a b : Bool). a && b) (sym (first_test out put p q r s x y z w)) (sym (second_test out put p q r s x y z w))

-- as the code tests a saving
pub above_gains : (r : ℤ) → mag r < 2 ^ 63 → lt_z (pos 0) (to_z w64 (of_z w64 r)) ≡ gains? r
above_gains r h = gains_above _ ∙ ap gains? (kept h)

-- the second move is the first by other names, since lengths are symmetric
pub second_is : (n : ℕ) (out put : List ℕ) (p q r s y z : ℕ)
    → first_saving (length_of n out) (length_of n put) q p r s y z ≡ second_saving (length_of n out) (length_of n put) p q r s y z
second_is n out put p q r s y z = first_edge (length_of n out) (length_of n put) p q r s (length_symmetric n out) (length_symmetric n put) y z

-- the best of four labellings is above 0 exactly when one saves
pub three_opt_test : (out put : ℕ → ℕ → ℕ) (p q r s x y z w : ℕ) → gains? (three_opt_saving out put p q r s x y z w) ≡ labelling? out put p q r s x y z w
unfolding three_opt_saving labelling?
three_opt_test out put p q r s x y z w =
    gains_larger (label_saving out put p q r s x y z w) _
    ∙ ap₂ (λ (a b : Bool). a || b) (label_test out put p q r s x y z w)
    (gains_larger (label_saving out put p q r s x y w z) _
    ∙ ap₂ (λ (a b : Bool). a || b) (label_test out put p q r s x y w z)
    (gains_larger (label_saving out put p q r s y x z w) _ ∙ ap₂ (λ (a b : Bool). a || b) (label_test out put p q r s y x z w) (label_test out put p q r s y x w z)))
