-- What functions ask of each other about the subject of `specs/Find.antt`, and what they ensure.
use Rattle.std.specs.Prelude.{ℕ, suc, ◌+◌, ◌-◌, ◌*◌, ◌≤◌, ◌<◌, ◌≡◌, Bool, false, not, ◌&&◌, cond, List, ◌++◌, Option, Some, None, eqb, length, take}
use Rattle.lengths.specs.Edge.{Edge, Point, edge_count, row, rows, edges, tri}
use Rattle.lengths.specs.Instance.{least_points, most_edges}
use Rattle.search.specs.asks.Pairs.{passes?}
use Rattle.rules.specs.Pairs.{keep}
use Rattle.endian.specs.Bytes.{whole32}
use Rattle.search.specs.asks.Split.{LegsAsked}
use Rattle.enumeration.specs.declared.comparison.Comparison.{Comparison}
use Rattle.sets.specs.Neighbours.{either?}
use Rattle.enumeration.specs.Find.{numbers_of}

-- 1 for a test that passes, 0 for one that does not
unfoldable pub ones : Bool → ℕ
ones t = cond t 1 0

-- z is barred
abbrev pub barred? : Option ℕ → ℕ → Bool
barred? None z = false
barred? (Some w) z = eqb z w

-- the pair x, z passes the one comparison, and z is not barred
unfoldable pub unbarred? : ℕ → List ℕ → List ℕ → ℕ → Option ℕ → ℕ → ℕ → Bool
unbarred? n table legs bound barred x z = passes? n table legs bound x z && not (barred? barred z)

-- the point that is barred in the row of x: the row of the lower point of K's edge bars the higher
abbrev pub barred_in : ℕ → ℕ → ℕ → Option ℕ
barred_in low high x = cond (eqb x low) (Some high) None

-- the pair x, z passes the one comparison, and is not K's edge
unfoldable pub passes_apart? : ℕ → List ℕ → List ℕ → ℕ → ℕ → ℕ → ℕ → ℕ → Bool
passes_apart? n table legs bound low high x z = unbarred? n table legs bound (barred_in low high x) x z

-- the pair x, z passes the one comparison, and `other` is one of its points
unfoldable pub at_end? : ℕ → List ℕ → List ℕ → ℕ → ℕ → ℕ → ℕ → Bool
at_end? n table legs bound other x z = passes? n table legs bound x z && either? other x z

-- the pairs of x with the points above it that pass and are not barred
unfoldable pub unbarred_of : ℕ → List ℕ → List ℕ → ℕ → ℕ → Option ℕ → List Edge
unbarred_of n table legs bound x barred = keep (unbarred? n table legs bound barred) (row x (suc x) (n - x))

-- the same by a comparison
abbrev pub apart_by : Comparison → ℕ → ℕ → ℕ → ℕ → Bool
apart_by by = passes_apart? by.n (whole32 by.table.now) by.legs.now by.bound

abbrev pub end_by : Comparison → ℕ → ℕ → ℕ → Bool
end_by by = at_end? by.n (whole32 by.table.now) by.legs.now by.bound

abbrev pub row_by : Comparison → ℕ → Option ℕ → List Edge
row_by by = unbarred_of by.n (whole32 by.table.now) by.legs.now by.bound

-- what the search of a row is asked about: the row's point, and room for a pair with each point above it
pub record RowToList (n x : ℕ) (found : List ℕ) (before : ℕ) : Type 0 where
  pub low : 1 ≤ x
  pub high : x < n
  pub few : before + (n - x) ≤ most_edges
  pub room : 2 * (before + (n - x)) ≤ length found

-- these pairs of the row are written behind those that were there before
pub record RowFound (by : Comparison) (x : ℕ) (barred : Option ℕ) (found : List ℕ) (before count : ℕ) (left : List ℕ) : Type 0 where
  pub counted : count ≡ before + length (row_by by x barred)
  pub front : take (2 * count) left ≡ take (2 * before) found ++ numbers_of (row_by by x barred)
  pub size : length left ≡ length found

-- what the search of all rows is asked about: room for every pair
pub record RowsToList (n : ℕ) (found : List ℕ) : Type 0 where
  pub some : 1 ≤ n
  pub room : 2 * edge_count n ≤ length found

-- the pairs of the rows below x that pass the test are written, and those of the rows from x on are still to come
pub record RowsFound (n : ℕ) (test : ℕ → ℕ → Bool) (found₀ found : List ℕ) (x count : ℕ) : Type 0 where
  pub from : 1 ≤ x
  pub within : x ≤ n
  pub size : length found ≡ length found₀
  pub looked : count + tri (n + 1 - x) ≤ tri n
  pub counted : count + length (keep test (rows x (n - x))) ≡ length (keep test (edges n))
  pub written : take (2 * count) found ++ numbers_of (keep test (rows x (n - x))) ≡ numbers_of (keep test (edges n))

-- what the search at an end of the edge is asked about: the same, and the other end
pub record EndAsked (n other : ℕ) (found : List ℕ) : Type 0 where
  pub asked : RowsToList n found
  pub point : Point n other

-- what the search is asked about: the edge ab, the split point, and room for every pair
pub record FindAsked (n : ℕ) (out put marks : List ℕ) (a b c : ℕ) (found : List ℕ) : Type 0 where
  pub legs : LegsAsked n out put marks c
  pub least : least_points ≤ n
  pub first : Point n a
  pub second : Point n b
  pub apart : a ≡ b → ⊥
  pub room : 2 * edge_count n ≤ length found

-- the search wrote so many pairs, x then y for each, to the front of `found`
pub record Found (pairs : List Edge) (count : ℕ) (found : List ℕ) : Type 0 where
  pub counted : count ≡ length pairs
  pub front : take (2 * count) found ≡ numbers_of pairs
  pub few : count ≤ most_edges
  pub room : 2 * count ≤ length found
