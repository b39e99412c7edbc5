-- How often a number stands in a list.
use Rattle.std.specs.Prelude.{ℕ, ◌+◌, true, false, List, [], ◌∷◌, eqb}

-- how often v stands in the list
unfoldable pub count : ℕ → List ℕ → ℕ
count v [] = 0
count v (u ∷ us) = elim (eqb u v) [ true ↦ 1 + count v us | false ↦ count v us ]
