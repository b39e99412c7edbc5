-- A mark read from a packed set, and one written into it, by the marks that the set holds. Assumes nothing.
use Prim.Native.Nat.{ℕ, ◌+◌, ◌*◌, ◌/◌, ◌%◌, ◌≤◌, ◌<◌}
use mathlib.Core.Path.{◌≡◌, sym, ◌∙◌, ap, ap₂}
use mathlib.Core.Bool.{true}
use mathlib.Core.List.{List}
use native.Mathlib.Omega.{arith}
use native.Mathlib.Decide.{ℕ_discrete}
use lib.ListN.{length, get_or, set, length-set}
use lib.Seq.{get_or-set_same, get_or-set_other}
use Rattle.lengths.specs.Edge.{edge_count, place}
use Rattle.lengths.proofs.Edges.{place_below}
use Rattle.marks.specs.Mark.{mark_at, set_mark, pending_mark, opens, open_at, open_up_to, mark_in}
use Rattle.marks.specs.Packed.{ByteSet, quarter, quarters, packed_bytes, packed, well_packed, marks_of}
use Rattle.marks.specs.asks.Mark.{MarkSet, MarkAsked}
use Rattle.marks.specs.asks.Packed.{Put}
use Rattle.marks.proofs.Marks.{mark_size, marks_set}
use Rattle.marks.proofs.PackedSets.{quarters_at, packed_as, well-packed, marks_are, whole_well, marks_size, marks_quarter, packed_marks, marks_packed}

-- a set that holds marks of n points, and the place of an edge
module _ (n : ℕ) (s : List ℕ) {at : ℕ} (whole : length (marks_of n s) ≡ edge_count n) (h : at < edge_count n) where
  pub held_well : well_packed n s ≡ true
  held_well = whole_well n s whole (omega arith)

  pub held_inside : at < 4 * length s
  unfolding packed_bytes
  held_inside = omega (arith, (well-packed n s held_well).size)

  -- the mark that stands in the two bits is the one that the set holds
  pub held_mark : quarter (get_or s (at / 4) 0) (at % 4) ≡ mark_at (marks_of n s) at
  unfolding mark_at
  held_mark = marks_quarter n s held_well at

  pub held_at : mark_at (quarters s) at ≡ mark_at (marks_of n s) at
  unfolding mark_at
  held_at = quarters_at s at ∙ held_mark

  pub held_open : (most : ℕ) → open_at most (quarters s) at ≡ open_at most (marks_of n s) at
  held_open most = ap (opens most) held_at

  module _ {mark r : ℕ} (is_mark : mark ≤ pending_mark) (p : Put (get_or s (at / 4) 0) (at % 4) mark r) where
    written : List ℕ
    written = set_mark (marks_of n s) at mark

    written_at : (i : ℕ) → quarter (get_or (set s (at / 4) r) (i / 4) 0) (i % 4) ≡ get_or written i 0
    unfolding written set_mark
    written_at i = elim (ℕ_discrete i at) [
      | yes e ↦
          ap₂ (λ (k j : ℕ). quarter (get_or (set s (at / 4) r) k 0) j) (ap (λ (k : ℕ). k / 4) e) (ap (λ (k : ℕ). k % 4) e)
          ∙ ap (λ (b : ℕ). quarter b (at % 4)) (get_or-set_same s (at / 4) r 0 (omega (arith, held_inside)))
          ∙ p.here
          ∙ sym (get_or-set_same (marks_of n s) at mark 0 (omega (arith, whole)))
          ∙ ap (λ (k : ℕ). get_or (set (marks_of n s) at mark) k 0) (sym e)
      | no d ↦ others i d (ℕ_discrete (i / 4) (at / 4)) ∙ marks_quarter n s held_well i ∙ sym (get_or-set_other (marks_of n s) at i mark 0 d)
    ]
      where
        others : (i : ℕ) → (i ≡ at → ⊥) → Dec (i / 4 ≡ at / 4) → quarter (get_or (set s (at / 4) r) (i / 4) 0) (i % 4) ≡ quarter (get_or s (i / 4) 0) (i % 4)
        others i d (yes e) =
            ap (λ (k : ℕ). quarter (get_or (set s (at / 4) r) k 0) (i % 4)) e
            ∙ ap (λ (b : ℕ). quarter b (i % 4)) (get_or-set_same s (at / 4) r 0 (omega (arith, held_inside)))
            ∙ p.others (i % 4) (omega arith) (λ q. d (omega (arith, e, q)))
            ∙ ap (λ (k : ℕ). quarter (get_or s k 0) (i % 4)) (sym e)
        others i d (no g) = ap (λ (b : ℕ). quarter b (i % 4)) (get_or-set_other s (at / 4) (i / 4) r 0 g)

    written_set : ByteSet n written
    unfolding written
    written_set = record { size = mark_size (marks_of n s) at mark ∙ whole; are = marks_set (marks_of n s) at mark is_mark (marks_are n s) }

    -- the set with these two bits written holds the marks with this one written
    pub held_written : marks_of n (set s (at / 4) r) ≡ set_mark (marks_of n s) at mark
    unfolding written
    held_written =
        ap (marks_of n) (packed_as (set s (at / 4) r) written (length-set s (at / 4) r ∙ (well-packed n s held_well).size ∙ ap packed_bytes (sym written_set.size)) small written_at)
        ∙ marks_packed written_set
      where
        small : (k : ℕ) → get_or (set s (at / 4) r) k 0 ≤ 255
        small k = elim (ℕ_discrete k (at / 4)) [
          | yes e ↦ omega (arith, ap (λ (j : ℕ). get_or (set s (at / 4) r) j 0) e, get_or-set_same s (at / 4) r 0 (omega (arith, held_inside)), p.small)
          | no d ↦ omega (arith, get_or-set_other s (at / 4) k r 0 d, (well-packed n s held_well).bytes k)
        ]

-- two bits written, of whatever points the set is
pub marked_at : (s : List ℕ) {at mark r : ℕ} → mark ≤ pending_mark → Put (get_or s (at / 4) 0) (at % 4) mark r → MarkSet s at mark (set s (at / 4) r)
marked_at s {at} {mark} {r} is p = record { kept = length-set s (at / 4) r; written = λ n whole h. held_written n s whole h is p }

-- the four marks of a byte, which begins with the edge at place p
pub byte_open : (n : ℕ) (s : List ℕ) (most p j : ℕ) → length (marks_of n s) ≡ edge_count n → p % 4 ≡ 0 → j < 4 → p + j < edge_count n
    → opens most (quarter (get_or s (p / 4) 0) j) ≡ open_at most (marks_of n s) (p + j)
byte_open n s most p j whole begins h inside =
    let byte : p / 4 ≡ (p + j) / 4 = omega arith in
    let at : j ≡ (p + j) % 4 = omega arith in
    ap₂ (λ (k i : ℕ). opens most (quarter (get_or s k 0) i)) byte at ∙ ap (opens most) (held_mark n s whole inside)

-- the marks that a well packed set holds are a byte set
pub held_set : (n : ℕ) (s : List ℕ) → well_packed n s ≡ true → ByteSet n (marks_of n s)
held_set n s h = record { size = marks_size n s h; are = marks_are n s }

-- and a set that holds a byte set is the packed one
pub held_packed : {n : ℕ} (s : List ℕ) {marks : List ℕ} → 0 < edge_count n → marks_of n s ≡ marks → ByteSet n marks → s ≡ packed marks
held_packed {n} s some e b = sym (packed_marks n s (whole_well n s (ap length e ∙ b.size) some)) ∙ ap packed e

-- the edge ab
module _ (n : ℕ) (s : List ℕ) {a b : ℕ} (m : MarkAsked n (marks_of n s) a b) where
  pub edge_inside : {at : ℕ} → at ≡ place n a b → at < 4 * length s
  edge_inside e = omega (arith, e, held_inside n s m.whole (place_below m.is-edge))

  pub edge_open : (most : ℕ) → open_at most (quarters s) (place n a b) ≡ open_up_to most n (marks_of n s) a b
  unfolding open_up_to
  edge_open most = held_open n s m.whole (place_below m.is-edge) most

  pub edge_marked : {mark at : ℕ} {left : List ℕ} → at ≡ place n a b → MarkSet s at mark left → marks_of n left ≡ mark_in mark n (marks_of n s) a b
  unfolding mark_in
  edge_marked {mark} e w = w.written n m.whole (omega (arith, e, place_below m.is-edge)) ∙ ap (λ (i : ℕ). set_mark (marks_of n s) i mark) e
