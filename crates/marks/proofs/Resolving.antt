-- A packed set that is resolved: a byte, the loop of `resolve_all`, and the answer and the set at each way out of
-- `resolve`. Assumes nothing.
use Prim.Native.Nat.{ℕ, ◌/◌, ◌%◌, ◌≤◌, ◌<◌}
use mathlib.Core.Path.{◌≡◌, refl, sym, ◌∙◌, ap}
use mathlib.Core.Bool.{Bool, true, false, cond, not, true≢false}
use mathlib.Core.List.{List, [], map}
use native.Mathlib.Omega.{arith}
use lib.Dec.{eqb}
use lib.ListN.{length, get_or, length-map, get_or-map}
use borrow.Author.Tests.{eq-eqb, ne_eqb}
use Rattle.lists.specs.Test.{all_at_most, unless}
use Rattle.lengths.specs.Edge.{edge_count}
use Rattle.lengths.specs.Instance.{admission}
use Rattle.lengths.specs.declared.instance.Instance.{Instance}
use Rattle.lengths.proofs.Instances.{Admits, out_of_range}
use Rattle.lengths.proofs.AtMostTests.{at_most_each, at_most_all}
use Rattle.marks.specs.Mark.{mark_at, open_mark, pending_mark, none_pending}
use Rattle.marks.specs.Packed.{ByteSet, quarter, quarters, packed_bytes, byte_of, packed, well_packed, marks_of, repacked}
use Rattle.marks.specs.Pending.{resolved_answer, resolved_mark, resolved_marks, resolved_left, ResolvedAs}
use Rattle.marks.specs.asks.Packed.{SetWithin}
use Rattle.marks.specs.asks.Pending.{resolved_byte}
use Rattle.std.specs.Prelude.{Result, Ok, Err}
use Rattle.lengths.specs.Refusal.{refuse}
use Rattle.lengths.specs.declared.refusal.Refusal.{Refusal}
use Rattle.lengths.specs.declared.refusal.Refusal.TheVariants.{Marks, NothingPending}
use Rattle.lengths.specs.declared.refusal.Refused.{Refused}
use Rattle.marks.proofs.PackedSets.{quarter_small, quarters_byte, quarters_at, packed_as, well-packed, marks_are, marks_size, marks_quarter, repacked_same, marks_none, some_edges}
use Rattle.marks.proofs.PendingMarks.{resolved_size, resolved_at}

-- a resolved mark has two bits
pub resolved_small : (to q : ℕ) → to ≤ 3 → q ≤ 3 → resolved_mark to q ≤ 3
resolved_small to q h g = by (eqb q pending_mark)
  where
    by : (t : Bool) → cond t to q ≤ 3
    by true = h
    by false = g

pub resolved-byte : (to byte : ℕ) {a b c d : ℕ} → a ≡ resolved_mark to (quarter byte 0) → b ≡ resolved_mark to (quarter byte 1) → c ≡ resolved_mark to (quarter byte 2) → d ≡ resolved_mark to (quarter byte 3)
    → byte_of a b c d ≡ resolved_byte to byte
unfolding resolved_byte byte_of
resolved-byte to byte ea eb ec ed = omega (arith, ea, eb, ec, ed)

-- the loop: the first i bytes are resolved, the others as they were
pub record Resolving (to : ℕ) (set₀ set : List ℕ) (i : ℕ) : Type 0 where
  pub within : i ≤ length set₀
  pub kept : length set ≡ length set₀
  pub resolved : (j : ℕ) → j < i → get_or set j 0 ≡ resolved_byte to (get_or set₀ j 0)
  pub rest : (j : ℕ) → i ≤ j → get_or set j 0 ≡ get_or set₀ j 0

-- a well packed set and the marks that it holds
module _ (n : ℕ) (s : List ℕ) (h : well_packed n s ≡ true) where
  -- no mark of the set is above the limit exactly when none of those that it holds is: the others are 0
  pub within_held : (most : ℕ) → all_at_most most (quarters s) ≡ all_at_most most (marks_of n s)
  within_held most = by (all_at_most most (marks_of n s)) refl
    where
      by : (t : Bool) → all_at_most most (marks_of n s) ≡ t → all_at_most most (quarters s) ≡ t
      by true e = at_most_all most (quarters s) (λ i g. omega (arith, quarters_at s i, marks_quarter n s h i, at_most_each most (marks_of n s) e i))
      by false e = no (all_at_most most (quarters s)) refl
        where
          no : (t : Bool) → all_at_most most (quarters s) ≡ t → t ≡ false
          no true q = absurd (true≢false (sym (at_most_all most (marks_of n s) (λ i g. omega (arith, quarters_at s i, marks_quarter n s h i, at_most_each most (quarters s) q i))) ∙ e))
          no false q = refl

  -- the resolved bytes are the packed set of the resolved marks
  pub resolved_packed : (to : ℕ) → to ≤ pending_mark → map (resolved_byte to) s ≡ packed (resolved_marks to (marks_of n s))
  unfolding resolved_byte quarter byte_of mark_at
  resolved_packed to l =
      packed_as (map (resolved_byte to) s) (resolved_marks to (marks_of n s))
      (length-map s (resolved_byte to) ∙ (well-packed n s h).size ∙ ap packed_bytes (sym (resolved_size to (marks_of n s) ∙ marks_size n s h)))
      (λ k. omega (arith, get_or-map (resolved_byte to) s k 0, byte k 0, byte k 1, byte k 2, byte k 3))
      (λ i. resolved_quarter (i / 4) (i % 4) (omega arith) ∙ ap (resolved_mark to) (marks_quarter n s h i) ∙ sym (resolved_at to (marks_of n s) i))
    where
      byte : (k j : ℕ) → resolved_mark to (quarter (get_or s k 0) j) ≤ 3
      byte k j = resolved_small to (quarter (get_or s k 0) j) (omega arith) (quarter_small (get_or s k 0) j)

      resolved_quarter : (k j : ℕ) → j < 4 → quarter (get_or (map (resolved_byte to) s) k 0) j ≡ resolved_mark to (quarter (get_or s k 0) j)
      resolved_quarter k j g =
          ap (λ (b : ℕ). quarter b j) (get_or-map (resolved_byte to) s k 0)
          ∙ quarters_byte (λ (i : ℕ). resolved_mark to (quarter (get_or s k 0) i)) (byte k) j g

-- the ways out of `resolve`
module _ {n : ℕ} (s : List ℕ) where
  refused : {to : ℕ} {k : Refusal} → resolved_answer n (marks_of n s) ≡ refuse k → ResolvedAs n to s (refuse k) s
  refused h = record { answered = sym h; set-left = sym (rw h (repacked_same n s)) }

  pub refused_points : {to : ℕ} → {k : Refusal} → admission n ≡ Err k → ResolvedAs n to s (refuse k) s
  unfolding resolved_answer
  refused_points h = let o = out_of_range n h in refused (rw (resolved_answer, o.0, o.1))

  module _ {i : Instance} (a : Admits n i) where
    pub refused_set : {to : ℕ} {r : Bool} → r ≡ well_packed i.points s → r ≡ false → ResolvedAs n to s (refuse Marks) s
    unfolding resolved_answer
    refused_set e f =
        let none : marks_of n s ≡ [] = marks_none n s (ap (λ (m : ℕ). well_packed m s) (sym a.points) ∙ sym e ∙ f) in
        refused (rw (resolved_answer, a.range, ne_eqb (length (marks_of n s)) (edge_count n) (λ q. omega (arith, q, ap length none, some_edges n a.least))))

    module _ {r : Bool} (is : r ≡ well_packed i.points s) (yes : r ≡ true) where
      well : well_packed n s ≡ true
      well = ap (λ (m : ℕ). well_packed m s) (sym a.points) ∙ sym is ∙ yes

      answer : (t : Bool) → none_pending (marks_of n s) ≡ t → resolved_answer n (marks_of n s) ≡ unless (not t) (refuse NothingPending) (Ok tt)
      unfolding resolved_answer
      answer t e = rw (resolved_answer, a.range, eq-eqb (length (marks_of n s)) (edge_count n) (marks_size n s well), marks_are n s, e)

      pub refused_nothing : {to : ℕ} {t : Bool} → SetWithin open_mark s t → t ≡ true → ResolvedAs n to s (refuse NothingPending) s
      refused_nothing w e = refused (answer true (sym (within_held n s well open_mark) ∙ sym w.tested ∙ e))

      pub done : {to : ℕ} {t : Bool} {left : List ℕ} → to ≤ pending_mark → SetWithin open_mark s t → t ≡ false → left ≡ map (resolved_byte to) s → ResolvedAs n to s (Ok tt) left
      unfolding repacked
      done {to} l w e q =
          let d : resolved_answer n (marks_of n s) ≡ (Ok tt) = answer false (sym (within_held n s well open_mark) ∙ sym w.tested ∙ e) in
          record { answered = sym d; set-left = q ∙ resolved_packed n s well to l ∙ sym (rw (d, well)) }

-- what is left of marks of p points are marks of p points
pub resolved_byte_set : (mark : ℕ) {p : ℕ} {marks : List ℕ} → mark ≤ pending_mark → ByteSet p marks → (r : Result Unit Refused) → ByteSet p (resolved_left r mark marks)
unfolding mark_at
resolved_byte_set mark {p} {marks} l b (Err refused) = b
resolved_byte_set mark {p} {marks} l b (Ok _) =
    record { size = resolved_size mark marks ∙ b.size; are = at_most_all pending_mark (resolved_marks mark marks) (λ i h. omega (arith, resolved_at mark marks i, small i (eqb (mark_at marks i) pending_mark))) }
  where
    small : (i : ℕ) (t : Bool) → cond t mark (mark_at marks i) ≤ pending_mark
    small i true = l
    small i false = at_most_each pending_mark marks b.are i
