-- Marks that are read and written: the mark at the place written, at another place, and the size; what is open, said by
-- the mark itself; and what the test for pending marks says of each mark. Assumes nothing.
use Prim.Native.Nat.{ℕ, zero, suc, ◌≤◌, ◌<◌}
use mathlib.Core.Path.{◌≡◌, refl, sym, ◌∙◌}
use mathlib.Core.Bool.{true, not}
use mathlib.Core.Logic.{◌↔◌}
use mathlib.Core.List.{List, [], ◌∷◌}
use native.Mathlib.Omega.{arith}
use lib.Dec.{eqb, leb}
use lib.ListN.{length, set, length-set}
use lib.Seq.{get_or-set_same, get_or-set_other}
use borrow.Author.Tests.{le-leb, lt-leb, eqb-true, ne_eqb}
use Rattle.lists.specs.Test.{all_at_most}
use Rattle.lists.proofs.Bools.{and_left, and_right, and_both, and_no}
use Rattle.lengths.specs.Edge.{place}
use Rattle.lengths.proofs.AtMostTests.{at_most_each, at_most_all}
use Rattle.marks.specs.Mark.{mark_at, set_mark, struck_mark, open_mark, pending_mark, are_marks, none_pending, opens, open_at, mark_in}

pub mark_size : (marks : List ℕ) (i mark : ℕ) → length (set_mark marks i mark) ≡ length marks
unfolding set_mark
mark_size marks i mark = length-set marks i mark

pub length_marked : (mark n : ℕ) (marks : List ℕ) (a b : ℕ) → length (mark_in mark n marks a b) ≡ length marks
unfolding mark_in
length_marked mark n marks a b = mark_size marks (place n a b) mark

pub mark_same : (marks : List ℕ) (i mark : ℕ) → i < length marks → mark_at (set_mark marks i mark) i ≡ mark
unfolding mark_at set_mark
mark_same marks i mark h = get_or-set_same marks i mark 0 h

pub mark_other : (marks : List ℕ) (i j mark : ℕ) → (i ≡ j → ⊥) → mark_at (set_mark marks i mark) j ≡ mark_at marks j
unfolding mark_at set_mark
mark_other marks i j mark h = get_or-set_other marks i j mark 0 (λ e. h (sym e))

-- marks with another mark written are marks
pub marks_set : (marks : List ℕ) (i mark : ℕ) → mark ≤ pending_mark → are_marks marks ≡ true → are_marks (set_mark marks i mark) ≡ true
unfolding set_mark all_at_most
marks_set [] i mark l h = h
marks_set (m ∷ marks) zero mark l h = and_both (leb mark pending_mark) (are_marks marks) (le-leb mark pending_mark l) (and_right (leb m pending_mark) (are_marks marks) h)
marks_set (m ∷ marks) (suc i) mark l h =
    and_both (leb m pending_mark) (are_marks (set marks i mark)) (and_left (leb m pending_mark) (are_marks marks) h) (marks_set marks i mark l (and_right (leb m pending_mark) (are_marks marks) h))

-- a sheet counts mark 1 as open, and no other
pub open_one : (m : ℕ) → opens open_mark m ≡ eqb m open_mark
open_one zero = refl
open_one (suc zero) = refl
open_one (suc (suc m)) = rw (lt-leb (suc (suc m)) open_mark (omega arith), ne_eqb (suc (suc m)) open_mark (λ e. omega arith)) (and_no (not (eqb (suc (suc m)) struck_mark)))

pub open-mark : (marks : List ℕ) (i : ℕ) → open_at open_mark marks i ≡ true → mark_at marks i ≡ open_mark
open-mark marks i h = eqb-true (mark_at marks i) open_mark (sym (open_one (mark_at marks i)) ∙ h)

-- where each byte is a mark, nothing is pending exactly when no mark is 2
pub none_pending_exact : (marks : List ℕ) → are_marks marks ≡ true → (none_pending marks ≡ true) ↔ ((i : ℕ) → mark_at marks i ≡ pending_mark → ⊥)
unfolding mark_at all_at_most
none_pending_exact marks are =
    (λ h i e. omega (arith, at_most_each open_mark marks h i), λ h. at_most_all open_mark marks (λ i g. omega (arith, at_most_each pending_mark marks are i, h i)))
