-- What functions ask of each other about the subject of `specs/Shape.antt`, and what they ensure.
use Rattle.std.specs.Prelude.{ℕ, ◌≡◌}

-- the pair x, y at c: three different points
pub record Apart (c x y : ℕ) : Type 0 where
  pub x_y : x ≡ y → ⊥
  pub x_c : x ≡ c → ⊥
  pub y_c : y ≡ c → ⊥
