-- The savings of the rules, as 01's inequalities: exchanging two edges saves nothing exactly when the larger exchange
-- is at least their sum, and moving a point saves exactly when it makes the sum smaller. Assumes nothing.
use Prim.Native.Nat.{ℕ, ◌+◌, ◌≤◌, ◌<◌, max}
use mathlib.Core.Path.{◌≡◌, sym, ◌∙◌, ap₂}
use mathlib.Core.Logic.{◌↔◌}
use borrow.Author.Tests.{ltb-true, ltb-false, lt-ltb, le-ltb}
use lib.IntN.{ℤ}
use Rattle.lengths.specs.Saving.{saving}
use Rattle.lengths.proofs.Savings.{gains_iff}
use Rattle.rules.specs.Pair.{exchange_saving, move_saving, Compatible, MoveSaves}

pub compatible_sum : (out put : ℕ → ℕ → ℕ) (p q x y : ℕ) → Compatible out put p q x y ↔ (out p q + out x y ≤ max (put p x + put q y) (put p y + put q x))
unfolding exchange_saving
compatible_sum out put p q x y = (
  λ h. ltb-false _ _ (sym (gains_iff (out p q + out x y) (max (put p x + put q y) (put p y + put q x))) ∙ h),
  λ h. gains_iff (out p q + out x y) (max (put p x + put q y) (put p y + put q x)) ∙ le-ltb _ _ h,
)

pub move_sum : (out put : ℕ → ℕ → ℕ) (c x y u v : ℕ) → MoveSaves out put c x y u v ↔ (put x y + put u c + put v c < out u v + out x c + out y c)
unfolding move_saving
move_sum out put c x y u v = (
  λ h. ltb-true _ _ (sym (gains_iff (out u v + out x c + out y c) (put x y + put u c + put v c)) ∙ h),
  λ h. gains_iff (out u v + out x c + out y c) (put x y + put u c + put v c) ∙ lt-ltb _ _ h,
)

-- as the code makes them of sums
pub exchange_made : (out put : ℕ → ℕ → ℕ) (p q x y : ℕ) {a b c d : ℕ} {r : ℤ}
    → a ≡ put p x + put q y
    → b ≡ put p y + put q x
    → c ≡ out p q + out x y
    → d ≡ max a b
    → r ≡ saving c d
    → r ≡ exchange_saving out put p q x y
unfolding exchange_saving
exchange_made out put p q x y ea eb ec ed er = er ∙ ap₂ (λ (u v : ℕ). saving u v) ec (ed ∙ ap₂ max ea eb)

pub move_made : (out put : ℕ → ℕ → ℕ) (c x y u v : ℕ) {a b : ℕ} {r : ℤ}
    → a ≡ out u v + out x c + out y c
    → b ≡ put x y + put u c + put v c
    → r ≡ saving a b
    → r ≡ move_saving out put c x y u v
unfolding move_saving
move_made out put c x y u v ea eb er = er ∙ ap₂ (λ (s t : ℕ). saving s t) ea eb
