-- Test 11 of the edges that are taken out.
use Rattle.std.specs.Prelude.{ℕ, Bool, not, ◌&&◌, eqb}
use Rattle.lengths.specs.Instance.{is_point}

-- "An edge is two different points"
abbrev pub is_edge : ℕ → ℕ → ℕ → Bool
is_edge n a b = is_point n a && (is_point n b && not (eqb a b))
