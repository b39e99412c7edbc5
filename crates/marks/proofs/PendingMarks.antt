-- Pending marks that are resolved: laws of `resolved_marks` and of what confirming and withdrawing leave. Assumes
-- nothing.
use Prim.Native.Nat.{ℕ, zero, suc, ◌≤◌}
use mathlib.Core.Path.{◌≡◌, refl, sym, ◌∙◌, ap, ap₂}
use mathlib.Core.Bool.{Bool, true, false}
use mathlib.Core.List.{List, [], ◌∷◌}
use native.Mathlib.Omega.{arith}
use native.Mathlib.Decide.{ℕ_discrete}
use lib.Dec.{leb}
use lib.ListN.{length, length-map, get_or-map}
use borrow.Author.Tests.{eq-eqb, ne_eqb, leb-true}
use Rattle.lists.specs.Test.{all_at_most}
use Rattle.lists.proofs.Bools.{and_left, and_right}
use Rattle.lengths.specs.Edge.{edge_count, place}
use Rattle.lengths.specs.Instance.{in_range}
use Rattle.marks.specs.Mark.{mark_at, set_mark, struck_mark, open_mark, pending_mark, are_marks, none_pending, opens, open_up_to, open_in}
use Rattle.marks.specs.Pending.{resolved_answer, resolved_mark, resolved_marks, resolved_left}
use Rattle.marks.proofs.Marks.{open-mark}
use Rattle.std.specs.Prelude.{Result, Ok, Err}
use Rattle.lengths.specs.declared.refusal.Refused.{Refused}

-- resolved marks: the size stays, each mark is resolved by itself, and an open edge stays open
pub resolved_size : (to : ℕ) (marks : List ℕ) → length (resolved_marks to marks) ≡ length marks
unfolding resolved_marks
resolved_size to marks = length-map marks (resolved_mark to)

pub resolved_at : (to : ℕ) (marks : List ℕ) (i : ℕ) → mark_at (resolved_marks to marks) i ≡ resolved_mark to (mark_at marks i)
unfolding resolved_marks mark_at
resolved_at to marks i = get_or-map (resolved_mark to) marks i 0

pub resolved_open : (to n : ℕ) (marks : List ℕ) (a b : ℕ) → open_in n marks a b ≡ true → open_in n (resolved_marks to marks) a b ≡ true
unfolding open_up_to
resolved_open to n marks a b h = ap (opens open_mark) (resolved_at to marks (place n a b) ∙ ap (resolved_mark to) (open-mark marks (place n a b) h))

-- confirmed marks are open to a sheet where the marks before were
pub confirmed_open : (m : ℕ) → opens open_mark (resolved_mark struck_mark m) ≡ opens open_mark m
confirmed_open m = by (ℕ_discrete m pending_mark)
  where
    by : Dec (m ≡ pending_mark) → opens open_mark (resolved_mark struck_mark m) ≡ opens open_mark m
    by (yes e) = rw e
    by (no d) = rw (ne_eqb m pending_mark d)

-- a pending mark that is written before resolving is the resolved one written behind it
pub resolved-set : (to : ℕ) (marks : List ℕ) (i : ℕ) → resolved_marks to (set_mark marks i pending_mark) ≡ set_mark (resolved_marks to marks) i to
unfolding resolved_marks set_mark
resolved-set to [] i = refl
resolved-set to (m ∷ marks) zero = refl
resolved-set to (m ∷ marks) (suc i) = ap (λ (ms : List ℕ). resolved_mark to m ∷ ms) (resolved-set to marks i)

-- where nothing is pending, resolving changes nothing
pub resolved_none : (to : ℕ) (marks : List ℕ) → none_pending marks ≡ true → resolved_marks to marks ≡ marks
unfolding resolved_marks all_at_most
resolved_none to [] h = refl
resolved_none to (m ∷ marks) h =
    let low : m ≤ open_mark = leb-true m open_mark (and_left (leb m open_mark) (none_pending marks) h) in
    ap₂ (λ (x : ℕ) (xs : List ℕ). x ∷ xs) (rw (ne_eqb m pending_mark (λ e. omega arith))) (resolved_none to marks (and_right (leb m open_mark) (none_pending marks) h))

-- and confirming or withdrawing leaves such marks, whatever n it states
pub left_none : (to n : ℕ) (marks : List ℕ) → none_pending marks ≡ true → resolved_left (resolved_answer n marks) to marks ≡ marks
left_none to n marks h = by (resolved_answer n marks)
  where
    by : (r : Result Unit Refused) → resolved_left r to marks ≡ marks
    by (Ok _) = resolved_none to marks h
    by (Err refused) = refl

-- what confirming or withdrawing leaves of n points' marks: all resolved, also where nothing is pending
-- and it is refused
pub left_resolved : (to n : ℕ) (marks : List ℕ) → in_range n ≡ true → length marks ≡ edge_count n → are_marks marks ≡ true → resolved_left (resolved_answer n marks) to marks ≡ resolved_marks to marks
unfolding resolved_answer
left_resolved to n marks range size are = by (none_pending marks) refl
  where
    by : (b : Bool) → none_pending marks ≡ b → resolved_left (resolved_answer n marks) to marks ≡ resolved_marks to marks
    by true h = rw (resolved_answer, range, eq-eqb (length marks) (edge_count n) size, are, h) (sym (resolved_none to marks h))
    by false h = rw (resolved_answer, range, eq-eqb (length marks) (edge_count n) size, are, h)
