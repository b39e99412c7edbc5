-- The first number that passes a test.
use Rattle.std.specs.Prelude.{ℕ, zero, suc, Bool, true, false}

-- the first of the k numbers from z on that passes the test, z + k where none does
unfoldable pub first_from : (ℕ → Bool) → ℕ → ℕ → ℕ
first_from test z zero = z
first_from test z (suc k) = elim (test z) [ true ↦ z | false ↦ first_from test (suc z) k ]
