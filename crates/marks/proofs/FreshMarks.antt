-- Fresh marks: the bytes that `open_all` writes, `fresh_set_answer` at each way out of `fresh_marks`, and what is left: a
-- 1 for each edge, all open. Assumes nothing.
use Prim.Native.Nat.{ℕ, zero, suc, ◌+◌, ◌-◌, ◌*◌, ◌/◌, ◌^◌, ◌≤◌, ◌<◌}
use mathlib.Core.Path.{◌≡◌, refl, sym, ◌∙◌, ap, ap₂}
use mathlib.Core.Bool.{true}
use mathlib.Core.List.{List}
use native.Mathlib.Omega.{arith}
use native.Mathlib.Decide.{dec_lt}
use lib.ListN.{length, replicate, get_or-replicate, length-replicate, get_or-eq_default}
use borrow.Author.Tests.{eq-eqb, ne_eqb}
use Rattle.lengths.specs.Edge.{edge_count, place, IsEdge}
use Rattle.lengths.specs.Instance.{admission, in_range}
use Rattle.lengths.specs.declared.instance.Instance.{Instance}
use Rattle.lengths.proofs.Edges.{place_below}
use Rattle.lengths.proofs.AtMostTests.{at_most_all}
use Rattle.lengths.proofs.Instances.{Admits, out_of_range}
use Rattle.marks.specs.Mark.{mark_at, open_mark, pending_mark, opens, open_up_to, open_in}
use Rattle.marks.specs.Packed.{ByteSet, packed_bytes, packed_size, byte_of, packed}
use Rattle.marks.specs.Fresh.{fresh_answer, fresh_set_answer, fresh_left, fresh_set_left, fresh_marks, FreshAs}
use Rattle.marks.specs.asks.Converting.{fourth, byte_at}
use Rattle.marks.specs.asks.Fresh.{open_of, open_byte}
use Rattle.std.specs.Prelude.{Ok, Err}
use Rattle.lengths.specs.Refusal.{refuse}
use Rattle.lengths.specs.declared.refusal.Refusal.{Refusal}
use Rattle.lengths.specs.declared.refusal.Refusal.TheVariants.{Marks}

-- a byte of open edges, by how many edges are left

pub four_open : (left : ℕ) → 4 ≤ left → 85 ≡ open_byte left
unfolding open_byte byte_of
four_open left h =
    let at : (j : ℕ) → j < 4 → open_of left j ≡ 1 = λ j g. get_or-replicate left j 1 0 (omega arith) in
    omega (arith, at 0 (omega arith), at 1 (omega arith), at 2 (omega arith), at 3 (omega arith))

pub few_open : (left : ℕ) → 0 < left → left < 4 → 85 / 2 ^ (2 * (4 - left)) ≡ open_byte left
unfolding open_byte byte_of
few_open zero h g = absurd (omega arith)
few_open (suc zero) h g = refl
few_open (suc (suc zero)) h g = refl
few_open (suc (suc (suc zero))) h g = refl
few_open (suc (suc (suc (suc left)))) h g = absurd (omega arith)

-- the edges from place 4 i on, open
pub opened_byte : (edges i : ℕ) → 4 * i ≤ edges → open_byte (edges - 4 * i) ≡ byte_at (replicate edges open_mark) i
unfolding open_byte
opened_byte edges i h = ap₂ (λ (a b : ℕ). byte_of a b (open_of (edges - 4 * i) 2) (open_of (edges - 4 * i) 3)) (at 0) (at 1) ∙ ap₂ (λ (c d : ℕ). byte_of (fourth (replicate edges open_mark) i 0) (fourth (replicate edges open_mark) i 1) c d) (at 2) (at 3)
  where
    at : (j : ℕ) → open_of (edges - 4 * i) j ≡ fourth (replicate edges open_mark) i j
    at j = elim (dec_lt j (edges - 4 * i)) [
      | yes g ↦ get_or-replicate (edges - 4 * i) j 1 0 g ∙ sym (get_or-replicate edges (4 * i + j) 1 0 (omega arith))
      | no g ↦
          get_or-eq_default (replicate (edges - 4 * i) open_mark) 0 {n = j} (omega (arith, length-replicate {A = ℕ} (edges - 4 * i) 1))
          ∙ sym (get_or-eq_default (replicate edges open_mark) 0 {n = 4 * i + j} (omega (arith, length-replicate {A = ℕ} edges 1)))
    ]

-- some edge is left for each byte
pub some_left : (edges : ℕ) {size i : ℕ} → size ≡ packed_bytes edges → i < size → 4 * i < edges
unfolding packed_bytes
some_left edges room h = omega (arith, room)

-- and there is room for all of them
pub open_room : (edges : ℕ) {size : ℕ} → size ≡ packed_bytes edges → size ≡ packed_bytes (length (replicate edges open_mark))
open_room edges room = room ∙ ap packed_bytes (sym (length-replicate {A = ℕ} edges open_mark))

-- the ways out of `fresh_marks`
module _ {n : ℕ} {s : List ℕ} where
  refused : {k : Refusal} → fresh_set_answer n (length s) ≡ refuse k → FreshAs n s (refuse k) s
  refused h = record { answered = sym h; set-left = rw h }

  pub refused_fresh_points : {k : Refusal} → admission n ≡ Err k → FreshAs n s (refuse k) s
  unfolding fresh_set_answer
  refused_fresh_points h = let o = out_of_range n h in refused (rw (fresh_set_answer, o.0, o.1))

  module _ {i : Instance} (a : Admits n i) where
    pub refused_fresh_size : (length s ≡ packed_size i.points → ⊥) → FreshAs n s (refuse Marks) s
    unfolding fresh_set_answer
    refused_fresh_size h = refused
        (rw (fresh_set_answer, a.range, ne_eqb (length s) (packed_size n) (λ e. h (e ∙ ap packed_size (sym a.points)))))

    pub made_fresh : {left : List ℕ} → length s ≡ packed_size i.points → left ≡ packed (replicate (edge_count i.points) open_mark) → FreshAs n s (Ok tt) left
    unfolding fresh_set_answer fresh_marks
    made_fresh {left} h l =
        let answer : fresh_set_answer n (length s) ≡ (Ok tt) = rw (fresh_set_answer, a.range, eq-eqb (length s) (packed_size n) (h ∙ ap packed_size a.points)) in
        record { answered = sym answer; set-left = rw (answer, fresh_marks) (l ∙ ap (λ (m : ℕ). packed (replicate (edge_count m) open_mark)) a.points) }

-- what *fresh marks* leaves in a buffer of the right size
pub fresh-left : (n : ℕ) (marks : List ℕ) → in_range n ≡ true → length marks ≡ edge_count n → fresh_left (fresh_answer n (length marks)) n marks ≡ fresh_marks n
unfolding fresh_answer
fresh-left n marks range size = rw (fresh_answer, range, eq-eqb (length marks) (edge_count n) size)

-- fresh marks are a 1 for each edge
pub fresh_size : (n : ℕ) → length (fresh_marks n) ≡ edge_count n
unfolding fresh_marks
fresh_size n = length-replicate (edge_count n) 1

-- and every edge is open
pub fresh_open : {n a b : ℕ} → IsEdge n a b → open_in n (fresh_marks n) a b ≡ true
unfolding open_up_to mark_at fresh_marks
fresh_open {n} {a} {b} e = ap (opens open_mark) (get_or-replicate (edge_count n) (place n a b) 1 0 (place_below e))

-- what *fresh marks* leaves in a packed set of the right size
pub fresh-set-left : (n : ℕ) (set : List ℕ) → in_range n ≡ true → length set ≡ packed_size n → fresh_set_left (fresh_set_answer n (length set)) n set ≡ packed (fresh_marks n)
unfolding fresh_set_answer
fresh-set-left n set range size = rw (fresh_set_answer, range, eq-eqb (length set) (packed_size n) size)

-- fresh marks are marks of n points
pub fresh_byte_set : (n : ℕ) → ByteSet n (fresh_marks n)
unfolding fresh_marks
fresh_byte_set n = record {
  size = fresh_size n;
  are = at_most_all pending_mark (fresh_marks n) (λ i h. omega (arith, get_or-replicate {A = ℕ} (edge_count n) i 1 0 (omega (arith, fresh_size n))));
}
