-- Lists of edges that rise in 01's order ("Pairs rise by x, then by y"), so that each edge stands at most once.
use Rattle.std.specs.Prelude.{ℕ}
use mathlib.Core.List.{List, [], ◌∷◌, Memᴰ}
use Rattle.lengths.specs.Edge.{Edge, edge, Before}

-- ab is one of the list, as it stands there
abbrev pub Among : List Edge → ℕ → ℕ → Type 0
Among es a b = Memᴰ (edge a b) es

-- each edge stands before all that follow it
abbrev pub Rising : List Edge → Type 0
Rising [] = Unit {0}
Rising (edge a b ∷ es) = ((c d : ℕ) → Among es c d → Before a b c d) × Rising es
