-- Packed marks: a set is packed exactly as the marks that it holds say, mark by mark; packing and reading back give the
-- marks, and reading and packing a well packed set give its bytes. Assumes nothing.
use Prim.Native.Nat.{ℕ, zero, suc, ◌+◌, ◌-◌, ◌*◌, ◌/◌, ◌%◌, ◌≤◌, ◌<◌}
use mathlib.Core.Path.{◌≡◌, refl, sym, ◌∙◌, ap, ap₂}
use mathlib.Core.Bool.{Bool, true, false, cond, ◌&&◌}
use mathlib.Core.List.{List, [], ◌∷◌}
use native.Mathlib.Omega.{arith}
use native.Mathlib.Decide.{dec_lt}
use lib.Dec.{eqb}
use lib.ListN.{length, get_or, take, drop, length-take, get_or-eq_default}
use lib.Seq.{get_or-take, get_or-drop, ext_get_or}
use borrow.Author.Tests.{eq-eqb, eqb-true}
use Rattle.lengths.specs.Edge.{edge_count, tri}
use Rattle.lengths.specs.Instance.{least_points}
use Rattle.lengths.specs.declared.instance.Instance.{Instance}
use Rattle.lengths.proofs.Edges.{edge_count_tri, tri_mono}
use Rattle.lengths.proofs.Instances.{Admits}
use Rattle.lengths.proofs.AtMostTests.{at_most_each, at_most_all}
use Rattle.lists.specs.Test.{all_at_most, AtMost}
use Rattle.lists.proofs.Bools.{and_left, and_right, and_both}
use Rattle.marks.specs.Mark.{are_marks, pending_mark}
use Rattle.marks.specs.asks.Converting.{fourth, byte_at}
use Rattle.marks.specs.Packed.{ByteSet, quarter, quarters, packed_bytes, packed_size, byte_of, packed, well_packed, marks_of, repacked}

-- a byte and its quarters

pub quarter_small : (b j : ℕ) → quarter b j ≤ 3
unfolding quarter
quarter_small b j = omega arith

pub quarter_none : (j : ℕ) → j < 4 → quarter 0 j ≡ 0
unfolding quarter
quarter_none zero h = refl
quarter_none (suc zero) h = refl
quarter_none (suc (suc zero)) h = refl
quarter_none (suc (suc (suc zero))) h = refl
quarter_none (suc (suc (suc (suc j)))) h = absurd (omega arith)

-- a byte is the byte of its quarters
pub byte_quarters : (b : ℕ) → b ≤ 255 → b ≡ byte_of (quarter b 0) (quarter b 1) (quarter b 2) (quarter b 3)
unfolding quarter byte_of
byte_quarters b h =
    let lowest : b ≡ b % 4 + 4 * (b / 4) = omega arith in
    let second : b / 4 ≡ b / 4 % 4 + 4 * (b / 16) = omega arith in
    let third : b / 16 ≡ b / 16 % 4 + 4 * (b / 64) = omega arith in
    let highest : b / 64 ≡ b / 64 % 4 = omega arith in
    omega arith

-- and the quarters of a byte of four marks are the marks
pub quarters_byte : (m : ℕ → ℕ) → ((j : ℕ) → m j ≤ 3) → (j : ℕ) → j < 4 → quarter (byte_of (m 0) (m 1) (m 2) (m 3)) j ≡ m j
unfolding quarter byte_of
quarters_byte m h zero g = omega (arith, h 0)
quarters_byte m h (suc zero) g = omega (arith, h 0, h 1)
quarters_byte m h (suc (suc zero)) g = omega (arith, h 0, h 1, h 2)
quarters_byte m h (suc (suc (suc zero))) g = omega (arith, h 0, h 1, h 2, h 3)
quarters_byte m h (suc (suc (suc (suc j)))) g = absurd (omega arith)

-- bytes and their quarters, by places

pub quarters_at : (set : List ℕ) (i : ℕ) → get_or (quarters set) i 0 ≡ quarter (get_or set (i / 4) 0) (i % 4)
unfolding quarters
quarters_at [] i = sym (quarter_none (i % 4) (omega arith))
quarters_at (b ∷ set) zero = refl
quarters_at (b ∷ set) (suc zero) = refl
quarters_at (b ∷ set) (suc (suc zero)) = refl
quarters_at (b ∷ set) (suc (suc (suc zero))) = refl
quarters_at (b ∷ set) (suc (suc (suc (suc i)))) =
    let byte : suc (suc (suc (suc i))) / 4 ≡ suc (i / 4) = omega arith in
    let place : suc (suc (suc (suc i))) % 4 ≡ i % 4 = omega arith in
    quarters_at set i ∙ sym (ap₂ (λ (k j : ℕ). quarter (get_or (b ∷ set) k 0) j) byte place)

pub quarters_size : (set : List ℕ) → length (quarters set) ≡ 4 * length set
unfolding quarters
quarters_size [] = refl
quarters_size (b ∷ set) = omega (arith, quarters_size set)

-- the bytes behind the first are those of the marks behind the first four
byte_later : (marks rest : List ℕ) (k : ℕ) → ((j : ℕ) → get_or marks (suc (suc (suc (suc (4 * k + j))))) 0 ≡ fourth rest k j) → byte_at marks (suc k) ≡ byte_at rest k
byte_later marks rest k h =
    ap₂ (λ (a b : ℕ). byte_of a b (fourth marks (suc k) 2) (fourth marks (suc k) 3)) (at 0) (at 1)
    ∙ ap₂ (λ (c d : ℕ). byte_of (fourth rest k 0) (fourth rest k 1) c d) (at 2) (at 3)
  where
    at : (j : ℕ) → fourth marks (suc k) j ≡ fourth rest k j
    at j = let e : 4 * suc k + j ≡ suc (suc (suc (suc (4 * k + j)))) = omega arith in ap (λ (i : ℕ). get_or marks i 0) e ∙ h j

pub packed_at : (marks : List ℕ) (k : ℕ) → get_or (packed marks) k 0 ≡ byte_at marks k
unfolding packed byte_of
packed_at [] k = refl
packed_at (a ∷ []) zero = refl
packed_at (a ∷ []) (suc k) = sym (byte_later (a ∷ []) [] k (λ j. refl))
packed_at (a ∷ b ∷ []) zero = refl
packed_at (a ∷ b ∷ []) (suc k) = sym (byte_later (a ∷ b ∷ []) [] k (λ j. refl))
packed_at (a ∷ b ∷ c ∷ []) zero = refl
packed_at (a ∷ b ∷ c ∷ []) (suc k) = sym (byte_later (a ∷ b ∷ c ∷ []) [] k (λ j. refl))
packed_at (a ∷ b ∷ c ∷ d ∷ marks) zero = refl
packed_at (a ∷ b ∷ c ∷ d ∷ marks) (suc k) = packed_at marks k ∙ sym (byte_later (a ∷ b ∷ c ∷ d ∷ marks) marks k (λ j. refl))

pub packed-length : (marks : List ℕ) → length (packed marks) ≡ packed_bytes (length marks)
unfolding packed packed_bytes
packed-length [] = refl
packed-length (a ∷ []) = refl
packed-length (a ∷ b ∷ []) = refl
packed-length (a ∷ b ∷ c ∷ []) = refl
packed-length (a ∷ b ∷ c ∷ d ∷ marks) = omega (arith, packed-length marks)

-- the packed set holds the marks, each in its two bits, and zeros past them
pub packed_quarter : (marks : List ℕ) → AtMost 3 marks → (i : ℕ) → quarter (get_or (packed marks) (i / 4) 0) (i % 4) ≡ get_or marks i 0
packed_quarter marks h i =
    let e : 4 * (i / 4) + i % 4 ≡ i = omega arith in
    ap (λ (b : ℕ). quarter b (i % 4)) (packed_at marks (i / 4))
    ∙ quarters_byte (fourth marks (i / 4)) (λ j. h (4 * (i / 4) + j)) (i % 4) (omega arith)
    ∙ ap (λ (k : ℕ). get_or marks k 0) e

-- and bytes that hold the marks so are the packed set
pub packed_as : (set marks : List ℕ) → length set ≡ packed_bytes (length marks) → AtMost 255 set → ((i : ℕ) → quarter (get_or set (i / 4) 0) (i % 4) ≡ get_or marks i 0) → set ≡ packed marks
packed_as set marks size bytes each = ext_get_or 0 set (packed marks) (size ∙ sym (packed-length marks)) (λ k h. byte k ∙ sym (packed_at marks k))
  where
    at : (k j : ℕ) → j < 4 → quarter (get_or set k 0) j ≡ fourth marks k j
    at k j h =
        let byte : (4 * k + j) / 4 ≡ k = omega arith in
        let place : (4 * k + j) % 4 ≡ j = omega arith in
        sym (ap₂ (λ (p q : ℕ). quarter (get_or set p 0) q) byte place) ∙ each (4 * k + j)

    byte : (k : ℕ) → get_or set k 0 ≡ byte_of (fourth marks k 0) (fourth marks k 1) (fourth marks k 2) (fourth marks k 3)
    byte k =
        byte_quarters (get_or set k 0) (bytes k)
        ∙ ap₂ (λ (a b : ℕ). byte_of a b (quarter (get_or set k 0) 2) (quarter (get_or set k 0) 3)) (at k 0 (omega arith)) (at k 1 (omega arith))
        ∙ ap₂ (λ (c d : ℕ). byte_of (fourth marks k 0) (fourth marks k 1) c d) (at k 2 (omega arith)) (at k 3 (omega arith))

-- an instance has edges
pub some_edges : (n : ℕ) → least_points ≤ n → 0 < edge_count n
unfolding tri
some_edges n h = omega (arith, edge_count_tri n, tri_mono 2 n (omega arith))

pub points_edges : {n : ℕ} {i : Instance} → Admits n i → 0 < edge_count i.points
points_edges {n} a = rw a.points (some_edges n a.least)

-- test 6, as facts of each byte and of each quarter
pub record WellPacked (n : ℕ) (set : List ℕ) : Type 0 where
  pub size : length set ≡ packed_size n
  pub bytes : AtMost 255 set
  pub marks : (i : ℕ) → quarter (get_or set (i / 4) 0) (i % 4) ≤ pending_mark
  pub unused : (i : ℕ) → edge_count n ≤ i → quarter (get_or set (i / 4) 0) (i % 4) ≡ 0

module _ (n : ℕ) (set : List ℕ) where
  unused_test : Bool
  unused_test = all_at_most 0 (drop (edge_count n) (quarters set))

  pub well-packed : well_packed n set ≡ true → WellPacked n set
  unfolding well_packed unused_test
  well-packed h =
      let size = eqb (length set) (packed_size n) in
      let bytes = all_at_most 255 set in
      let marks = are_marks (quarters set) in
      let later = and_right size (bytes && (marks && unused_test)) h in
      let last = and_right bytes (marks && unused_test) later in
      record {
        size = eqb-true (length set) (packed_size n) (and_left size (bytes && (marks && unused_test)) h);
        bytes = at_most_each 255 set (and_left bytes (marks && unused_test) later);
        marks = λ i. omega (arith, at_most_each pending_mark (quarters set) (and_left marks unused_test last) i, quarters_at set i);
        unused = λ i g. zeros i g (at_most_each 0 (drop (edge_count n) (quarters set)) (and_right marks unused_test last));
      }
    where
      zeros : (i : ℕ) → edge_count n ≤ i → AtMost 0 (drop (edge_count n) (quarters set)) → quarter (get_or set (i / 4) 0) (i % 4) ≡ 0
      zeros i g all =
          let k : ℕ = i - edge_count n in
          let e : edge_count n + k ≡ i = omega arith in
          omega (arith, all k, get_or-drop (edge_count n) (quarters set) k 0, ap (λ (j : ℕ). get_or (quarters set) j 0) e, quarters_at set i)

  pub packed_well : WellPacked n set → well_packed n set ≡ true
  unfolding well_packed
  packed_well w =
      and_both (eqb (length set) (packed_size n)) (all_at_most 255 set && (are_marks (quarters set) && all_at_most 0 (drop (edge_count n) (quarters set))))
      (eq-eqb (length set) (packed_size n) w.size)
      (and_both (all_at_most 255 set) (are_marks (quarters set) && all_at_most 0 (drop (edge_count n) (quarters set)))
      (at_most_all 255 set (λ i g. w.bytes i))
      (and_both (are_marks (quarters set)) (all_at_most 0 (drop (edge_count n) (quarters set)))
      (at_most_all pending_mark (quarters set) (λ i g. omega (arith, w.marks i, quarters_at set i)))
      (at_most_all 0 (drop (edge_count n) (quarters set)) (λ i g. omega (arith, get_or-drop (edge_count n) (quarters set) i 0, quarters_at set (edge_count n + i), w.unused (edge_count n + i) (omega arith))))))

  -- the marks that a set holds

  -- a set is well packed, or it holds no marks
  pub marks_are : are_marks (marks_of n set) ≡ true
  unfolding marks_of all_at_most
  marks_are = by (well_packed n set) refl
    where
      by : (b : Bool) → well_packed n set ≡ b → are_marks (cond b (take (edge_count n) (quarters set)) []) ≡ true
      by true h = at_most_all pending_mark (take (edge_count n) (quarters set)) (λ i g. omega (arith, g, length-take (edge_count n) (quarters set), get_or-take (edge_count n) (quarters set) i 0 (omega (arith, g, length-take (edge_count n) (quarters set))), quarters_at set i, (well-packed h).marks i))
      by false h = refl

  -- as many marks as edges, of which there are some, stand in a well packed set
  pub whole_well : length (marks_of n set) ≡ edge_count n → 0 < edge_count n → well_packed n set ≡ true
  unfolding marks_of
  whole_well e some = by (well_packed n set) refl
    where
      by : (b : Bool) → well_packed n set ≡ b → b ≡ true
      by true h = refl
      by false h = absurd (omega (arith, e, some, ap (λ (t : Bool). length (cond t (take (edge_count n) (quarters set)) [])) h))

  -- a set that is not well packed holds no marks
  pub marks_none : well_packed n set ≡ false → marks_of n set ≡ []
  unfolding marks_of
  marks_none h = ap (λ (t : Bool). cond t (take (edge_count n) (quarters set)) []) h

  module _ (h : well_packed n set ≡ true) where
    pub marks_taken : marks_of n set ≡ take (edge_count n) (quarters set)
    unfolding marks_of
    marks_taken = ap (λ (t : Bool). cond t (take (edge_count n) (quarters set)) []) h

    pub marks_size : length (marks_of n set) ≡ edge_count n
    unfolding packed_bytes
    marks_size = omega (arith, ap length marks_taken, length-take (edge_count n) (quarters set), quarters_size set, (well-packed h).size)

    pub marks_quarter : (i : ℕ) → quarter (get_or set (i / 4) 0) (i % 4) ≡ get_or (marks_of n set) i 0
    marks_quarter i = elim (dec_lt i (edge_count n)) [
      | yes g ↦ sym (quarters_at set i) ∙ sym (get_or-take (edge_count n) (quarters set) i 0 g) ∙ ap (λ (m : List ℕ). get_or m i 0) (sym marks_taken)
      | no g ↦ (well-packed h).unused i (omega arith) ∙ sym (get_or-eq_default (marks_of n set) 0 {n = i} (omega (arith, marks_size)))
    ]

    -- BACK AND THERE: packing the marks of a well packed set gives its bytes
    pub packed_marks : packed (marks_of n set) ≡ set
    packed_marks = let w = well-packed h in sym (packed_as set (marks_of n set) (w.size ∙ ap packed_bytes (sym marks_size)) w.bytes marks_quarter)

  -- a set in which its own marks are put again stays as it is, well packed or not
  pub repacked_same : repacked n set (marks_of n set) ≡ set
  unfolding repacked
  repacked_same = by (well_packed n set) refl
    where
      by : (b : Bool) → well_packed n set ≡ b → cond b (packed (marks_of n set)) set ≡ set
      by true h = packed_marks h
      by false h = refl

-- marks of n points and their packed set
module _ {n : ℕ} {marks : List ℕ} (s : ByteSet n marks) where
  at_most : (i : ℕ) → get_or marks i 0 ≤ pending_mark
  at_most = at_most_each pending_mark marks s.are

  packed_quarters : (i : ℕ) → quarter (get_or (packed marks) (i / 4) 0) (i % 4) ≡ get_or marks i 0
  packed_quarters = packed_quarter marks (λ i. omega (arith, at_most i))

  pub packed_is_well : well_packed n (packed marks) ≡ true
  unfolding byte_of
  packed_is_well = packed_well n (packed marks) (record {
    size = packed-length marks ∙ ap packed_bytes s.size;
    bytes = λ k. omega (arith, packed_at marks k, at_most (4 * k + 0), at_most (4 * k + 1), at_most (4 * k + 2), at_most (4 * k + 3));
    marks = λ i. omega (arith, packed_quarters i, at_most i);
    unused = λ i g. packed_quarters i ∙ get_or-eq_default marks 0 {n = i} (omega (arith, s.size));
  })

  -- THERE AND BACK: a packed set holds the marks that were packed
  pub marks_packed : marks_of n (packed marks) ≡ marks
  marks_packed = ext_get_or 0 (marks_of n (packed marks)) marks (marks_size n (packed marks) packed_is_well ∙ sym s.size) (λ i g. sym (marks_quarter n (packed marks) packed_is_well i) ∙ packed_quarters i)
