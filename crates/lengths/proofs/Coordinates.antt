-- Coordinates: the test of the limit, one after the other, and the sum of squares that it bounds. Assumes nothing.
use Prim.Native.Nat.{ℕ, ◌-◌, ◌^◌, ◌≤◌, ◌<◌}
use mathlib.Core.Path.{◌≡◌, ap₂}
use mathlib.Core.List.{List}
use native.Mathlib.Nat.{mul-le-mul, add_comm}
use native.Mathlib.Omega.{arith}
use Rattle.lengths.specs.declared.distance.Rule.{Rule}
use Rattle.lengths.specs.declared.distance.Rule.TheVariants.{Rooted, Man2d, Max2d}
use Rattle.lengths.specs.Distance.{squares, gap_distance, distance_by, passes}
use Rattle.lengths.specs.Edge.{edge}
use Rattle.lengths.specs.Instance.{most_coordinate, most_squares}
use Rattle.lengths.specs.Measure.{x_of, y_of, gap_of, x_gap, y_gap, edge_distance}
use Rattle.lengths.specs.asks.Measure.{distance_to}
use Rattle.lists.specs.Test.{AtMost}
use Rattle.std.specs.Int.{abs_diff}
use Rattle.lengths.proofs.Bisect.{bisect_below}

-- the library's name of a gap
pub abs_diff_gap : (a b : ℕ) → abs_diff a b ≡ gap_of a b
unfolding gap_of
abs_diff_gap a b = omega arith

gap_small : {a b m : ℕ} → a ≤ m → b ≤ m → gap_of a b ≤ m
unfolding gap_of
gap_small h g = omega arith

pub gap_symmetric : (a b : ℕ) → gap_of a b ≡ gap_of b a
unfolding gap_of
gap_symmetric a b = add_comm (a - b) (b - a)

pub distance_symmetric : (rule : Rule) (cs : List ℕ) (a b : ℕ) → edge_distance rule cs (edge a b) ≡ edge_distance rule cs (edge b a)
unfolding edge_distance x_gap y_gap
distance_symmetric rule cs a b = ap₂ (gap_distance rule) (gap_symmetric (x_of cs a) (x_of cs b)) (gap_symmetric (y_of cs a) (y_of cs b))

-- where the coordinates are within the limit, so are their gaps, and the squares of these add up to at most most_squares
module _ (cs : List ℕ) (small : AtMost most_coordinate cs) (a b : ℕ) where
  pub x_small : x_gap cs a b ≤ most_coordinate
  unfolding x_gap x_of
  x_small = gap_small (small _) (small _)

  pub y_small : y_gap cs a b ≤ most_coordinate
  unfolding y_gap y_of
  y_small = gap_small (small _) (small _)

-- from the coordinates of a, this is the distance of the edge
pub distance_edge : (rule : Rule) (cs : List ℕ) (a b : ℕ) {x y : ℕ} → x ≡ x_of cs a → y ≡ y_of cs a → distance_to rule x y cs b ≡ edge_distance rule cs (edge a b)
unfolding distance_to edge_distance x_gap y_gap
distance_edge rule cs a b h g = rw (h, g)

pub squares_small : {dx dy : ℕ} → dx ≤ most_coordinate → dy ≤ most_coordinate → squares dx dy ≤ most_squares
unfolding squares
squares_small x y = omega (arith, mul-le-mul x x, mul-le-mul y y)

-- every distance has 21 bits
pub distance_bits : (rule : Rule) {dx dy : ℕ} → dx ≤ most_coordinate → dy ≤ most_coordinate → gap_distance rule dx dy < 2 ^ 21
unfolding gap_distance distance_by
distance_bits (Rooted root) {dx} {dy} x y = bisect_below (passes root (squares dx dy)) 21 0
distance_bits Man2d x y = omega arith
distance_bits Max2d x y = omega arith
