-- The savings of the rules do not depend on the names of points and edges, where lengths do not depend on the order
-- of an edge's points. Assumes nothing.
use Prim.Native.Nat.{ℕ}
use mathlib.Core.Path.{◌≡◌, ap₂}
use native.Mathlib.Omega.{arith}
use Rattle.lengths.specs.Saving.{saving}
use Rattle.rules.specs.Pair.{exchange_saving, move_saving}

module _ (out put : ℕ → ℕ → ℕ) (out-turned : (a b : ℕ) → out a b ≡ out b a) (put-turned : (a b : ℕ) → put a b ≡ put b a) where
  -- exchanging pq and xy: p and q, x and y, the two edges
  pub exchange_first : (p q x y : ℕ) → exchange_saving out put q p x y ≡ exchange_saving out put p q x y
  unfolding exchange_saving
  exchange_first p q x y =
      ap₂ saving (omega (arith, out-turned q p)) (omega arith)

  pub exchange_second : (p q x y : ℕ) → exchange_saving out put p q y x ≡ exchange_saving out put p q x y
  unfolding exchange_saving
  exchange_second p q x y =
      ap₂ saving (omega (arith, out-turned y x)) (omega arith)

  pub exchange_edges : (p q x y : ℕ) → exchange_saving out put x y p q ≡ exchange_saving out put p q x y
  unfolding exchange_saving
  exchange_edges p q x y =
      ap₂ saving (omega arith) (omega (arith, put-turned x p, put-turned y q, put-turned x q, put-turned y p))

  -- moving c from between x and y to between u and v: x and y, u and v
  pub move_from : (c x y u v : ℕ) → move_saving out put c y x u v ≡ move_saving out put c x y u v
  unfolding move_saving
  move_from c x y u v =
      ap₂ saving (omega arith) (omega (arith, put-turned y x))

  pub move_to : (c x y u v : ℕ) → move_saving out put c x y v u ≡ move_saving out put c x y u v
  unfolding move_saving
  move_to c x y u v =
      ap₂ saving (omega (arith, out-turned v u)) (omega arith)
