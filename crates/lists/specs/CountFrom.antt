-- How many numbers pass a test.
use Rattle.std.specs.Prelude.{ℕ, zero, suc, ◌+◌, Bool, true, false}

-- how many of the k numbers from z on pass the test
unfoldable pub count_from : (ℕ → Bool) → ℕ → ℕ → ℕ
count_from test z zero = 0
count_from test z (suc k) = elim (test z) [ true ↦ 1 + count_from test (suc z) k | false ↦ count_from test (suc z) k ]
