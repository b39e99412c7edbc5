-- The search for the next feasible pair: one comparison for conditions 1, 4 and 5, and what the search
-- is asked and answers.
use Rattle.std.specs.Prelude.{ℕ, zero, suc, ◌+◌, ◌-◌, ◌≤◌, ◌≡◌, Bool, true, false, ◌&&◌, not, List, [], ◌∷◌, Option, Some, None, leb, get_or}
use Rattle.lengths.specs.Edge.{Edge, edge}
use Rattle.lengths.specs.Instance.{most_length}
use Rattle.lengths.specs.Table.{length_of, Lengths}
use Rattle.sets.specs.Neighbours.{neighbours_of, within?, beyond}
use Rattle.endian.specs.Bytes.{whole32}
use Rattle.search.specs.declared.pairs.Search.{Search}
use Rattle.rules.specs.asks.Pairs.{feasible_after}
use Rattle.sets.specs.Shape.{shuts?}
use Rattle.search.specs.asks.Split.{Prepared}
use Rattle.sets.specs.asks.Stored.{edge_list}
use Rattle.sets.specs.declared.neighbours.Neighbours.{Neighbours}

-- the first of the k numbers from z on that passes the test, as a search in a row answers it
unfoldable pub first_in : (ℕ → Bool) → ℕ → ℕ → Option ℕ
first_in test z zero = None
first_in test z (suc k) = elim (test z) [ true ↦ Some z | false ↦ first_in test (suc z) k ]

-- the pair x, y passes the one comparison
unfoldable pub passes? : ℕ → List ℕ → List ℕ → ℕ → ℕ → ℕ → Bool
passes? n table legs bound x y = leb (get_or legs x 0 + most_length + get_or legs y 0) (length_of n table x y + bound)

-- the same, and condition 2 at c: all the neighbours that c has are x or y
unfoldable pub allowed? : ℕ → List ℕ → List ℕ → ℕ → Neighbours → ℕ → ℕ → Bool
allowed? n table legs bound centre x y = within? centre x y && passes? n table legs bound x y

-- the same, and conditions 2 and 3 at x and y
unfoldable pub fits? : ℕ → List ℕ → List ℕ → ℕ → Neighbours → List Edge → ℕ → ℕ → ℕ → Bool
fits? n table legs bound centre K c x y =
    allowed? n table legs bound centre x y && not (shuts? n K x y (beyond (neighbours_of K x) c) (beyond (neighbours_of K y) c))

-- the first of a list of pairs, as `next_pair` answers it
unfoldable pub first_of : List Edge → Option (ℕ × ℕ)
first_of [] = None
first_of (edge x y ∷ es) = Some (x, y)

-- the same of what a search reads
abbrev pub passing : Search → ℕ → ℕ → Bool
passing s = passes? s.n (whole32 s.table.now) s.legs.now s.bound

abbrev pub allowing : Search → Neighbours → ℕ → ℕ → Bool
allowing s = allowed? s.n (whole32 s.table.now) s.legs.now s.bound

abbrev pub fitting : Search → ℕ → ℕ → Bool
fitting s = fits? s.n (whole32 s.table.now) s.legs.now s.bound s.centre (edge_list s.k) s.c

-- the first point after y that passes the test
abbrev pub first_after : Search → (ℕ → Bool) → ℕ → Option ℕ
first_after s test y = first_in test (suc y) (s.n - y)

-- the pair xy that the search comes after: x = y stands before the row of x
pub record Place (s : Search) (x y : ℕ) : Type 0 where
  pub low : 1 ≤ x
  pub up : x ≤ y
  pub high : y ≤ s.n

-- the first feasible pair after xy at c, for every table of what is taken out and every open test whose legs and bound
-- these are, where c has these neighbours; the search's own table is of what is put in
pub record NextPairOf (s : Search) (x y : ℕ) (r : Option (ℕ × ℕ)) : Type 0 where
  pub first : (out : List ℕ) (open? : ℕ → ℕ → Bool) → Lengths s.n out
      → Prepared s.n (length_of s.n out) (length_of s.n (whole32 s.table.now)) open? (edge_list s.k) s.c s.legs.now s.bound
      → s.centre ≡ neighbours_of (edge_list s.k) s.c
      → r ≡ first_of (feasible_after s.n (length_of s.n out) (length_of s.n (whole32 s.table.now)) open? (edge_list s.k) s.c x y)
