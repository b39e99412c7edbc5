-- The limits of an instance (01, "Points, lengths, marks"), test 1, and the test of a point (11 and 17).
use Rattle.std.specs.Prelude.{ℕ, ◌+◌, ◌-◌, ◌*◌, ◌/◌, Bool, true, false, ◌&&◌, leb, Result, Ok, Err}
use Rattle.lengths.specs.declared.instance.Instance.{Instance}
use Rattle.lengths.specs.declared.refusal.Refusal.{Refusal}
use Rattle.lengths.specs.declared.refusal.Refusal.TheVariants.{Points}

-- "An instance has n points, 4 to 180"
abbrev pub least_points : ℕ
least_points = 4

abbrev pub most_points : ℕ
most_points = 180

-- "Coordinates are whole numbers from 0 to 1,000,000"
abbrev pub most_coordinate : ℕ
most_coordinate = 1000000

-- the sum of two squared differences of coordinates is at most this
abbrev pub most_squares : ℕ
most_squares = 2 * (most_coordinate * most_coordinate)

-- "one 32-bit length an edge, each at most 2,000,000"
abbrev pub most_length : ℕ
most_length = 2000000

-- "n(n - 1)/2 of them, at most 16,110"
abbrev pub most_edges : ℕ
most_edges = most_points * (most_points - 1) / 2

-- a place for each point, and one for 0, which is no point
abbrev pub point_places : ℕ
point_places = most_points + 1

-- up to so many points the operations use small arrays
abbrev pub few_points : ℕ
few_points = 60

abbrev pub few_edges : ℕ
few_edges = few_points * (few_points - 1) / 2

-- n is within the limits
unfoldable pub in_range : ℕ → Bool
in_range n = elim (leb least_points n) [ true ↦ leb n most_points | false ↦ false ]

-- what test 1 answers
unfoldable pub admission : ℕ → Result Instance Refusal
admission n = elim (in_range n) [ true ↦ Ok (record { points = n }) | false ↦ Err Points ]

-- a is one of the points 1 to n
unfoldable pub is_point : (n a : ℕ) → Bool
is_point n a = leb 1 a && leb a n
