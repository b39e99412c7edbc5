-- 01's starred examples ("What the contracts and the table of examples carry"): `starred` is the table, an entry
-- an example in 01's order, and `Claim` says what an entry claims, of the definitions that 01's
-- sentences are stated by.
use Rattle.std.specs.Prelude.{ℕ, ◌+◌, max, ◌≡◌, Bool, true, ◌↔◌, List, [], ◌∷◌, replicate, pos}
use Rattle.lengths.specs.Distance.{squares, IsEuc2d, IsCeil2d, IsAtt, IsMan2d, IsMax2d}
use Rattle.lengths.specs.Edge.{Edge, edge, edge_count}
use Rattle.lengths.specs.Measure.{measured_table}
use Rattle.lengths.specs.Table.{length_of}
use Rattle.lengths.specs.declared.distance.Root.TheVariants.{Euc2d}
use Rattle.lengths.specs.declared.distance.Rule.TheVariants.{Rooted}
use Rattle.closings.specs.Closing.{three_opt_saving, Saves, ThreeOptMoves, Closes}
use Rattle.marks.specs.Mark.{open_in}
use Rattle.rules.specs.Pair.{move_saving, Compatible, MoveSaves, FeasiblePair}
use Rattle.rules.specs.PairTest.{feasible_by01?}
use Rattle.sets.specs.EdgeSet.{with_pair}
use Rattle.sets.specs.Rising.{Among}

pub data Example : Type 0 where
  -- where the coordinates differ by dx and dy, the sum of squares is S, and rules 1 to 5 give these
  distances : (dx dy S euc2d ceil2d att man2d max2d : ℕ) → Example
  -- square: pq and xy are incompatible, the larger exchange against the two edges
  incompatible : (p q x y exchange both : ℕ) → Example
  -- square: pq and xy are compatible
  compatible : (p q x y : ℕ) → Example
  -- square, K = {ab}, split c: these are the feasible pairs
  feasible : (a b c : ℕ) → List Edge → Example
  -- square, split c: for the pair x, y and the edge uv test 5 compares these two sums, and does not shut the pair out
  compares : (c x y u v new old : ℕ) → Example
  -- 3-opt closing with rs of this length: each move takes out one sum and puts in the other, and so
  -- saves the difference
  saves : (rs taken put difference : ℕ) → Example
  -- 3-opt closing with rs of this length: no labelling saves
  unsaved : (rs : ℕ) → Example
  -- the square with the point 5 (0,5), split 4 after the pair 2, 3 at 1 under {12}: by 01's test 5 the pair 3, 5 would
  -- stand, but moving 1 from between 2 and 3 to between 4 and 5 saves so much, so it does not (02, Paper 7)
  moved : (saved : ℕ) → Example

-- 01's stars in its order, and one example more; the sums of test 5 belong to the standing pair before them
unfoldable pub starred : List Example
starred =
    distances 1 1 2 1 2 1 2 1 ∷
    distances 1 2 5 2 3 1 3 2 ∷
    distances 2 2 8 3 3 1 4 2 ∷
    distances 1 3 10 3 4 1 4 3 ∷
    distances 3 4 25 5 5 2 7 4 ∷
    distances 1000000 1000000 2000000000000 1414214 1414214 447214 2000000 1000000 ∷
    incompatible 1 3 2 4 20 28 ∷
    compatible 1 2 3 4 ∷
    feasible 1 2 3 (edge 1 4 ∷ edge 2 4 ∷ []) ∷
    compares 3 1 4 1 2 34 34 ∷
    feasible 1 3 2 [] ∷
    saves 9 30 27 3 ∷
    unsaved 12 ∷
    moved 4 ∷
    []

-- the rule gives d: d satisfies it, and no other number does
pub record Gives (rule : ℕ → Type 0) (d : ℕ) : Type 0 where
  pub satisfied : rule d
  pub only : (e : ℕ) → rule e → e ≡ d

-- the square 1 (0,0), 2 (10,0), 3 (10,10), 4 (0,10), rule 1
unfoldable pub square : ℕ → ℕ → ℕ
square = length_of 4 (measured_table (Rooted Euc2d) (0 ∷ 0 ∷ 10 ∷ 0 ∷ 10 ∷ 10 ∷ 0 ∷ 10 ∷ []) 4)

-- its fresh marks
unfoldable pub all_open : ℕ → ℕ → Bool
all_open = open_in 4 (replicate (edge_count 4) 1)

-- the square with 5 (0,5), and its fresh marks
unfoldable pub five : ℕ → ℕ → ℕ
five = length_of 5 (measured_table (Rooted Euc2d) (0 ∷ 0 ∷ 10 ∷ 0 ∷ 10 ∷ 10 ∷ 0 ∷ 10 ∷ 0 ∷ 5 ∷ []) 5)

unfoldable pub five_open : ℕ → ℕ → Bool
five_open = open_in 5 (replicate (edge_count 5) 1)

-- K after the pair 2, 3 at 1 under {12}
unfoldable pub second : List Edge
second = with_pair (edge 1 2 ∷ []) 1 2 3

-- the lengths among the 3-opt closing's points p, q, r, s, x, y, z, w, which are 1 to 8: `Eight` says which they are
unfoldable pub eight : ℕ → ℕ → ℕ → ℕ
eight rs =
    length_of 8
    (10 ∷ 20 ∷ 20 ∷ 9 ∷ 20 ∷ 9 ∷ 20 ∷ 20 ∷ 20 ∷ 20 ∷ 9 ∷ 20 ∷ 9 ∷ rs
    ∷ 10 ∷ 10 ∷ 20 ∷ 20 ∷ 20 ∷ 20 ∷ 10 ∷ 10 ∷ 20 ∷ 20 ∷ 20 ∷ 20 ∷ 20 ∷ 20 ∷ [])

-- K: pq and the centres' edges
unfoldable pub centres : List Edge
centres = edge 1 2 ∷ edge 3 5 ∷ edge 3 6 ∷ edge 4 7 ∷ edge 4 8 ∷ []

-- 01's lengths: pq and the centres' edges 10; px, qw, pz, qy 9; py, qx, pw, qz 20; rs as given
pub record Eight (l : ℕ → ℕ → ℕ) (p q r s x y z w between : ℕ) : Type 0 where
  pub pq : l p q ≡ 10
  pub rx : l r x ≡ 10
  pub ry : l r y ≡ 10
  pub sz : l s z ≡ 10
  pub sw : l s w ≡ 10
  pub px : l p x ≡ 9
  pub qw : l q w ≡ 9
  pub pz : l p z ≡ 9
  pub qy : l q y ≡ 9
  pub py : l p y ≡ 20
  pub qx : l q x ≡ 20
  pub pw : l p w ≡ 20
  pub qz : l q z ≡ 20
  pub rs : l r s ≡ between

-- the 3-opt closing has these lengths, and meets its conditions: refusal 15 does not apply
abbrev pub Given : ℕ → Type 0
Given rs = Eight (eight rs) 1 2 3 4 5 6 7 8 rs × ThreeOptMoves centres 1 2 3 4 5 6 7 8

-- each of a labelling's two moves takes out one sum and puts in the other: the sides of `Saves`
pub record Moves (l : ℕ → ℕ → ℕ) (p q r s x y z w taken put : ℕ) : Type 0 where
  pub first_taken : l p q + l r x + l s w ≡ taken
  pub first_put : l r s + l p x + l q w ≡ put
  pub second_taken : l p q + l r y + l s z ≡ taken
  pub second_put : l r s + l p z + l q y ≡ put

-- none of the four labellings saves: x, y swapped or not, z, w swapped or not
pub record NoneSaves (l : ℕ → ℕ → ℕ) (p q r s x y z w : ℕ) : Type 0 where
  pub as_named : Saves l l p q r s x y z w → ⊥
  pub swapped_zw : Saves l l p q r s x y w z → ⊥
  pub swapped_xy : Saves l l p q r s y x z w → ⊥
  pub swapped_both : Saves l l p q r s y x w z → ⊥

abbrev pub Claim : Example → Type 0
Claim (distances dx dy S euc2d ceil2d att man2d max2d) =
    (squares dx dy ≡ S)
    × Gives (IsEuc2d S) euc2d
    × Gives (IsCeil2d S) ceil2d
    × Gives (IsAtt S) att
    × Gives (IsMan2d dx dy) man2d
    × Gives (IsMax2d dx dy) max2d
Claim (incompatible p q x y exchange both) =
    (max (square p x + square q y) (square p y + square q x) ≡ exchange)
    × (square p q + square x y ≡ both)
    × (Compatible square square p q x y → ⊥)
Claim (compatible p q x y) = Compatible square square p q x y
Claim (feasible a b c pairs) = (x y : ℕ) → Among pairs x y ↔ FeasiblePair 4 square square all_open (edge a b ∷ []) c x y
Claim (compares c x y u v new old) =
    (square x y + square u c + square v c ≡ new)
    × (square u v + square x c + square y c ≡ old)
    × (MoveSaves square square c x y u v → ⊥)
Claim (saves rs taken put difference) =
    Given rs
    × Moves (eight rs) 1 2 3 4 5 6 7 8 taken put
    × (taken ≡ put + difference)
    × (three_opt_saving (eight rs) (eight rs) 1 2 3 4 5 6 7 8 ≡ pos difference)
    × Closes (eight rs) (eight rs) centres 1 2 3 4
Claim (unsaved rs) = Given rs × NoneSaves (eight rs) 1 2 3 4 5 6 7 8 × (Closes (eight rs) (eight rs) centres 1 2 3 4 → ⊥)
Claim (moved saved) =
    FeasiblePair 5 five five five_open (edge 1 2 ∷ []) 1 2 3
    × (feasible_by01? 5 five five five_open second 4 3 5 ≡ true)
    × (move_saving five five 1 2 3 4 5 ≡ pos saved)
    × (FeasiblePair 5 five five five_open second 4 3 5 → ⊥)
