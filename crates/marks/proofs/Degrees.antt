-- How many open edges a point has: two different points with an open edge to it are two. The examples are computed.
-- Assumes nothing.
use Prim.Native.Nat.{ℕ, ◌≤◌}
use mathlib.Core.Path.{◌≡◌, refl, sym, ap}
use mathlib.Core.Bool.{true, not}
use mathlib.Core.List.{List, [], ◌∷◌, map}
use native.Mathlib.Omega.{arith}
use lib.Dec.{eqb}
use borrow.Author.Tests.{ne_eqb}
use Rattle.lists.specs.CountFrom.{count_from}
use Rattle.lists.proofs.Bools.{and_both}
use Rattle.lists.proofs.CountFrom.{count_from_two}
use Rattle.lengths.specs.Edge.{Point, edge_count, place, place_up, tri}
use Rattle.marks.specs.Mark.{mark_at, set_mark, open_up_to, open_in, mark_in, strike_in}
use Rattle.marks.specs.Degree.{open_to, open_degree}
use Rattle.marks.specs.Fresh.{fresh_marks}

-- another point whose edge to v is open is counted
open-to : (n : ℕ) (marks : List ℕ) (v w : ℕ) → (w ≡ v → ⊥) → open_in n marks v w ≡ true → open_to n marks v w ≡ true
open-to n marks v w d h = and_both (not (eqb v w)) (open_in n marks v w) (ap not (ne_eqb v w (λ e. d (sym e)))) h

pub degree_two : {n : ℕ} (marks : List ℕ) (v : ℕ) {x y : ℕ} → Point n x → Point n y → (x ≡ y → ⊥) → (x ≡ v → ⊥) → (y ≡ v → ⊥) →
    open_in n marks v x ≡ true → open_in n marks v y ≡ true → 2 ≤ open_degree n marks v
unfolding open_degree
degree_two {n} marks v {x} {y} px py d dx dy hx hy =
    count_from_two (open_to n marks v) 1 n x y d px.low (omega (arith, px.high)) py.low (omega (arith, py.high))
    (open-to n marks v x dx hx)
    (open-to n marks v y dy hy)

-- examples: on fresh marks of 4 points each has 3 open edges, and where 1-2 is struck both its ends have 2
degree_fresh : map (open_degree 4 (fresh_marks 4)) (1 ∷ 2 ∷ 3 ∷ 4 ∷ []) ≡ 3 ∷ 3 ∷ 3 ∷ 3 ∷ []
unfolding open_degree count_from open_up_to mark_at fresh_marks edge_count place place_up tri
degree_fresh = refl

degree_struck : map (open_degree 4 (strike_in 4 (fresh_marks 4) 1 2)) (1 ∷ 2 ∷ 3 ∷ 4 ∷ []) ≡ 2 ∷ 2 ∷ 3 ∷ 3 ∷ []
unfolding open_degree count_from open_up_to mark_at mark_in set_mark fresh_marks edge_count place place_up tri
degree_struck = refl
