-- Marks that are packed byte by byte, a set that is unpacked mark by mark, and the answer and the set at each way out
-- of both conversions. Assumes nothing.
use Prim.Native.Nat.{ℕ, ◌+◌, ◌*◌, ◌≤◌, ◌<◌}
use mathlib.Core.Path.{◌≡◌, sym, ◌∙◌, ap}
use mathlib.Core.Bool.{Bool, true, false}
use mathlib.Core.List.{List}
use native.Mathlib.Omega.{arith}
use native.Mathlib.Decide.{ℕ_discrete}
use lib.Dec.{eqb}
use lib.ListN.{length, get_or, set, take, length-set}
use lib.Seq.{get_or-set_same, get_or-set_other, get_or-take, length-take-le, ext_get_or}
use borrow.Author.Tests.{eq-eqb, ne_eqb, eqb-true}
use Rattle.lists.proofs.Bools.{and_left, and_right}
use Rattle.lengths.specs.Edge.{edge_count}
use Rattle.lengths.specs.Instance.{admission}
use Rattle.lengths.specs.declared.instance.Instance.{Instance}
use Rattle.lengths.proofs.Instances.{Admits, out_of_range}
use Rattle.lengths.proofs.AtMostTests.{at_most_each}
use Rattle.marks.specs.Mark.{are_marks, pending_mark}
use Rattle.marks.specs.Packed.{ByteSet, quarters, packed_bytes, packed_size, packed, well_packed}
use Rattle.marks.specs.Converting.{is_byte_set, pack_answer, unpack_answer, PackedAs, UnpackedAs}
use Rattle.marks.specs.asks.Converting.{byte_at, PackAsked}
use Rattle.std.specs.Prelude.{Ok, Err}
use Rattle.lengths.specs.Refusal.{refuse}
use Rattle.lengths.specs.declared.refusal.Refusal.{Refusal}
use Rattle.lengths.specs.declared.refusal.Refusal.TheVariants.{Marks}
use Rattle.marks.proofs.PackedSets.{packed_at, packed-length, quarters_size, well-packed, marks_taken}

-- a buffer that is written from the front: the first k numbers are those of f
pub record Filling (f : ℕ → ℕ) (xs₀ xs : List ℕ) (k : ℕ) : Type 0 where
  pub within : k ≤ length xs₀
  pub kept : length xs ≡ length xs₀
  pub done : (j : ℕ) → j < k → get_or xs j 0 ≡ f j

module _ {f : ℕ → ℕ} {xs₀ xs : List ℕ} {k : ℕ} (o : Filling f xs₀ xs k) where
  pub one_filled : {m : ℕ} → k < length xs₀ → m ≡ f k → Filling f xs₀ (set xs k m) (k + 1)
  one_filled {m} h is = record { within = omega arith; kept = length-set xs k m ∙ o.kept; done = λ j g. at j g (ℕ_discrete j k) }
    where
      at : (j : ℕ) → j < k + 1 → Dec (j ≡ k) → get_or (set xs k m) j 0 ≡ f j
      at j g (yes e) = rw e (get_or-set_same xs k m 0 (omega (arith, o.kept)) ∙ is)
      at j g (no d) = get_or-set_other xs k j m 0 d ∙ o.done j (omega (arith, d))

  pub all_filled : (ys : List ℕ) → length xs₀ ≡ length ys → length xs₀ ≤ k → ((j : ℕ) → j < length ys → f j ≡ get_or ys j 0) → xs ≡ ys
  all_filled ys size h each = ext_get_or 0 xs ys (o.kept ∙ size) (λ j g. o.done j (omega (arith, o.kept)) ∙ each j (omega (arith, o.kept, size)))

-- all bytes of the packed set
pub all_packed : (marks : List ℕ) {set₀ s : List ℕ} {k : ℕ} → Filling (byte_at marks) set₀ s k → length set₀ ≡ packed_bytes (length marks) → length set₀ ≤ k → s ≡ packed marks
all_packed marks o room h = all_filled o (packed marks) (room ∙ sym (packed-length marks)) h (λ j g. sym (packed_at marks j))

-- all marks of a set
pub all_unpacked : (s : List ℕ) {bytes₀ bytes : List ℕ} {i : ℕ} → Filling (λ (j : ℕ). get_or (quarters s) j 0) bytes₀ bytes i → length bytes₀ ≤ 4 * length s → length bytes₀ ≤ i → bytes ≡ take (length bytes₀) (quarters s)
all_unpacked s {bytes₀} o room h =
    let size = length-take-le (length bytes₀) (quarters s) (omega (arith, room, quarters_size s)) in
    all_filled o (take (length bytes₀) (quarters s)) (sym size) h (λ j g. sym (get_or-take (length bytes₀) (quarters s) j 0 (omega (arith, g, size))))

-- a byte set that passes test 6
pub byte_set : (n : ℕ) (bytes : List ℕ) → is_byte_set n bytes ≡ true → ByteSet n bytes
unfolding is_byte_set
byte_set n bytes h = record { size = eqb-true (length bytes) (edge_count n) (and_left (eqb (length bytes) (edge_count n)) (are_marks bytes) h); are = and_right (eqb (length bytes) (edge_count n)) (are_marks bytes) h }

-- the ways out of `pack_marks`
module _ {n : ℕ} (bytes s : List ℕ) where
  refused_pack : {k : Refusal} → pack_answer n bytes (length s) ≡ refuse k → PackedAs n bytes s (refuse k) s
  refused_pack h = record { answered = sym h; set-left = rw h }

  pub pack_points : {k : Refusal} → admission n ≡ Err k → PackedAs n bytes s (refuse k) s
  unfolding pack_answer
  pack_points h = let o = out_of_range n h in refused_pack (rw (pack_answer, o.0, o.1))

  module _ {i : Instance} (a : Admits n i) {r : Bool} (is : r ≡ is_byte_set i.points bytes) where
    read : is_byte_set n bytes ≡ r
    read = ap (λ (m : ℕ). is_byte_set m bytes) (sym a.points) ∙ sym is

    pub pack_bytes : r ≡ false → PackedAs n bytes s (refuse Marks) s
    unfolding pack_answer
    pack_bytes e = refused_pack (rw (pack_answer, a.range, read ∙ e))

    module _ (yes : r ≡ true) where
      pub pack_size : (length s ≡ packed_size i.points → ⊥) → PackedAs n bytes s (refuse Marks) s
      unfolding pack_answer
      pack_size h = refused_pack (rw (pack_answer, a.range, read ∙ yes, ne_eqb (length s) (packed_size n) (λ e. h (e ∙ ap packed_size (sym a.points)))))

      module _ (size : length s ≡ packed_size i.points) where
        pub pack_asked : PackAsked bytes s
        pack_asked = let b = byte_set n bytes (read ∙ yes) in
            record { marks = at_most_each pending_mark bytes b.are; room = size ∙ ap packed_size a.points ∙ ap packed_bytes (sym b.size) }

        pub pack_done : {left : List ℕ} → left ≡ packed bytes → PackedAs n bytes s (Ok tt) left
        unfolding pack_answer
        pack_done l =
            let d : pack_answer n bytes (length s) ≡ (Ok tt) = rw (pack_answer, a.range, read ∙ yes, eq-eqb (length s) (packed_size n) (size ∙ ap packed_size a.points)) in
            record { answered = sym d; set-left = rw d l }

-- the ways out of `unpack_marks`
module _ {n : ℕ} (s bytes : List ℕ) where
  refused_unpack : {k : Refusal} → unpack_answer n s (length bytes) ≡ refuse k → UnpackedAs n s bytes (refuse k) bytes
  refused_unpack h = record { answered = sym h; bytes_left = rw h }

  pub unpack_points : {k : Refusal} → admission n ≡ Err k → UnpackedAs n s bytes (refuse k) bytes
  unfolding unpack_answer
  unpack_points h = let o = out_of_range n h in refused_unpack (rw (unpack_answer, o.0, o.1))

  module _ {i : Instance} (a : Admits n i) {r : Bool} (is : r ≡ well_packed i.points s) where
    test : well_packed n s ≡ r
    test = ap (λ (m : ℕ). well_packed m s) (sym a.points) ∙ sym is

    pub unpack_set : r ≡ false → UnpackedAs n s bytes (refuse Marks) bytes
    unfolding unpack_answer
    unpack_set e = refused_unpack (rw (unpack_answer, a.range, test ∙ e))

    module _ (yes : r ≡ true) where
      pub unpack_size : (length bytes ≡ edge_count i.points → ⊥) → UnpackedAs n s bytes (refuse Marks) bytes
      unfolding unpack_answer
      unpack_size h = refused_unpack (rw (unpack_answer, a.range, test ∙ yes, ne_eqb (length bytes) (edge_count n) (λ e. h (e ∙ ap edge_count (sym a.points)))))

      module _ (size : length bytes ≡ edge_count i.points) where
        right : length bytes ≡ edge_count n
        right = size ∙ ap edge_count a.points

        pub unpack_room : length bytes ≤ 4 * length s
        unfolding packed_bytes
        unpack_room = omega (arith, right, (well-packed n s (test ∙ yes)).size)

        pub unpack_done : {left : List ℕ} → left ≡ take (length bytes) (quarters s) → UnpackedAs n s bytes (Ok tt) left
        unfolding unpack_answer
        unpack_done l =
            let d : unpack_answer n s (length bytes) ≡ (Ok tt) = rw (unpack_answer, a.range, test ∙ yes, eq-eqb (length bytes) (edge_count n) right) in
            record { answered = sym d; bytes_left = rw d (l ∙ ap (λ (k : ℕ). take k (quarters s)) right ∙ sym (marks_taken n s (test ∙ yes))) }
