-- The loop of `open_edges`: the marks before a place are counted. Assumes nothing.
use Prim.Native.Nat.{ℕ, ◌+◌, ◌≤◌, ◌<◌}
use mathlib.Core.Path.{◌≡◌, sym, ◌∙◌, ap}
use mathlib.Core.Bool.{Bool, true, false}
use mathlib.Core.List.{List, ◌∷◌}
use native.Mathlib.Numerals.{add-one}
use native.Mathlib.Omega.{arith}
use lib.ListN.{length, drop, get_or, drop_of_length-le}
use lib.Seq.{drop-cons}
use Rattle.lists.specs.Count.{count}
use Rattle.marks.specs.asks.Counting.{OpenIs}
use Rattle.marks.proofs.Marks.{open_one}
use Rattle.marks.specs.Mark.{mark_at, open_mark, open_at}

pub record Counting (marks : List ℕ) (opens i : ℕ) : Type 0 where
  pub inside : i ≤ length marks
  pub few : opens ≤ i
  pub counted : opens + count 1 (drop i marks) ≡ count 1 marks

pub count_none : (marks : List ℕ) → Counting marks 0 0
count_none marks = record { inside = omega arith; few = omega arith; counted = omega arith }

module _ {marks : List ℕ} {opens i : ℕ} (c : Counting marks opens i) (h : i < length marks) where
  here : count 1 (drop i marks) ≡ count 1 (get_or marks i 0 ∷ drop (i + 1) marks)
  here = rw (add-one i) (ap (count 1) (drop-cons marks i 0 h))

  pub count_open : {b : Bool} {o : ℕ} → b ≡ open_at open_mark marks i → b ≡ true → o ≡ opens + 1 → Counting marks o (i + 1)
  unfolding count mark_at
  count_open is e q =
      let k : count 1 (drop i marks) ≡ 1 + count 1 (drop (i + 1) marks) = here ∙ rw (count, sym (open_one (get_or marks i 0)) ∙ sym is ∙ e) in
      record { inside = omega arith; few = omega (arith, c.few); counted = omega (arith, c.counted) }

  pub count_struck : {b : Bool} {o : ℕ} → b ≡ open_at open_mark marks i → b ≡ false → o ≡ opens → Counting marks o (i + 1)
  unfolding count mark_at
  count_struck is e q =
      let k : count 1 (drop i marks) ≡ count 1 (drop (i + 1) marks) = here ∙ rw (count, sym (open_one (get_or marks i 0)) ∙ sym is ∙ e) in
      record { inside = omega arith; few = omega (arith, c.few); counted = omega (arith, c.counted) }

pub count_done : {marks : List ℕ} {opens i : ℕ} → Counting marks opens i → length marks ≤ i → OpenIs marks opens
unfolding count
count_done {marks} {opens} {i} c h =
    let k : count 1 (drop i marks) ≡ 0 = ap (count 1) (drop_of_length-le marks h) in
    record { counted = omega (arith, c.counted); few = omega (arith, c.few, c.inside) }
