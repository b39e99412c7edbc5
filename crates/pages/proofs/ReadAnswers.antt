-- The ways out of `read_page`: the answer, the table and the packed set that are left. Assumes nothing.
use Prim.Native.Nat.{ℕ, suc, ◌+◌, ◌*◌, ◌/◌, ◌≤◌, ◌<◌}
use mathlib.Core.Path.{◌≡◌, sym, ◌∙◌, ap, ap₂}
use mathlib.Core.Bool.{Bool, true, false, not, ◌&&◌}
use mathlib.Core.List.{List}
use native.Mathlib.Omega.{arith}
use lib.Dec.{eqb}
use lib.ListN.{length}
use borrow.Author.Tests.{eq-eqb, ne_eqb}
use Rattle.lists.proofs.Bools.{and_both, and_no}
use Rattle.lists.proofs.FirstFrom.{first_from_high}
use Rattle.endian.specs.Bytes.{bytes32, whole32}
use Rattle.endian.proofs.Reading.{size32}
use Rattle.lengths.specs.Edge.{edge_count}
use Rattle.lengths.proofs.Edges.{edges_few}
use Rattle.marks.specs.Mark.{are_marks}
use Rattle.marks.specs.Packed.{packed_bytes, packed, well_packed, marks_of}
use Rattle.marks.proofs.PackedMarks.{held_packed}
use Rattle.marks.proofs.PackedSets.{some_edges, marks_are, whole_well, well-packed}
use Rattle.std.specs.Prelude.{Ok, Err}
use Rattle.lengths.specs.declared.refusal.Refusal.{Refusal}
use Rattle.lengths.specs.declared.refusal.Refusal.TheVariants as why
use Rattle.pages.specs.PageLine.{line_bytes}
use Rattle.pages.specs.Page.{first_place, page_lines, page_of}
use Rattle.pages.specs.Reading.{lengths_read, marks_read, right_line, wrong_line, is_page_text, read_answer, overlay, is_read, not_read, ReadAs}
use Rattle.admission.specs.Tests.{places_tested}
use Rattle.pages.specs.asks.Page.{PartAsked}
use Rattle.pages.specs.asks.Reading.{StoreAsked, MarksStored}
use Rattle.pages.specs.declared.reading.PageRefused.{PageRefused}
use Rattle.pages.proofs.Overlays.{overlay-length}
use Rattle.pages.proofs.PageParts.{Paged, not_paged, paged_part}
use Rattle.admission.proofs.Passed.{PlacesPassed, places}
use Rattle.pages.proofs.Storing.{marks_count}

-- the first wrong line is one of the lines, or one past them
pub wrong_few : (n first lines : ℕ) (text : List ℕ) → wrong_line n first lines text ≤ lines + 1
unfolding wrong_line
wrong_few n first lines text = omega (arith, first_from_high (λ k. not (right_line n first text k)) 0 lines)

refused_read : {n p : ℕ} {text table s : List ℕ} {r : PageRefused} → read_answer n p text (length (whole32 table)) (marks_of n s) ≡ Err r → ReadAs n p text table s (Err r) table s
refused_read h = record { answered = sym h; table-left = rw h; set-left = rw h }

pub read_tests : {n p : ℕ} {text table s : List ℕ} {r : Refusal} → places_tested n (length (whole32 table)) (marks_of n s) ≡ Err r → ReadAs n p text table s (not_read r 0) table s
unfolding read_answer
read_tests h = refused_read (rw (read_answer, h))

-- the tests are passed, and m is answered, which is n
module _ (n : ℕ) (table s : List ℕ) {m : ℕ} (h : places_tested n (length (whole32 table)) (marks_of n s) ≡ Ok m) where
  passed : PlacesPassed n (length (whole32 table)) (marks_of n s) m
  passed = places h

  pub read_page : {p : ℕ} {text : List ℕ} {r : Refusal} → page_of m p ≡ Err r → ReadAs n p text table s (not_read r 0) table s
  unfolding read_answer
  read_page {p} g = let q = not_paged m p g in refused_read (rw (read_answer, h, q.0, q.1))

  module _ {p first lines : ℕ} (g : Paged m p first lines) where
    pub part_of : PartAsked m first lines
    part_of = paged_part (omega (arith, passed.same, passed.least)) (omega (arith, passed.same, passed.most)) g

    module _ (text : List ℕ) {wrong : ℕ} (is : wrong ≡ wrong_line m first lines text) where
      wrong_is : wrong ≡ wrong_line m (first_place p) (page_lines m p) text
      wrong_is = is ∙ ap₂ (λ (f l : ℕ). wrong_line m f l text) g.first_is g.lines_are

      pub wrong_small : wrong ≤ 61
      wrong_small = omega (arith, is, wrong_few m first lines text, part_of.most)

      refused_text : is_page_text m p text ≡ false → ReadAs n p text table s (not_read why.PageText wrong) table s
      unfolding read_answer
      refused_text f = refused_read (rw (read_answer, h, g.page, f) (ap (not_read why.PageText) (sym wrong_is)))

      pub read_wrong : wrong ≤ lines → ReadAs n p text table s (not_read why.PageText wrong) table s
      unfolding is_page_text
      read_wrong l = refused_text (rw (is_page_text, ne_eqb (wrong_line m (first_place p) (page_lines m p) text) (suc (page_lines m p)) (λ e. omega (arith, e, wrong_is, g.lines_are, l))))

      pub read_surplus : (length text ≡ line_bytes * lines → ⊥) → ReadAs n p text table s (not_read why.PageText wrong) table s
      unfolding is_page_text
      read_surplus d =
          refused_text (
          ap (λ (t : Bool). eqb (wrong_line m (first_place p) (page_lines m p) text) (suc (page_lines m p)) && t) (ne_eqb (length text) (line_bytes * page_lines m p) (λ e. d (omega (arith, e, g.lines_are))))
          ∙ and_no (eqb (wrong_line m (first_place p) (page_lines m p) text) (suc (page_lines m p)))
          )

      module _ (l : lines < wrong) (size : length text ≡ line_bytes * lines) where
        whole : is_page_text m p text ≡ true
        unfolding is_page_text
        whole =
            and_both (eqb (wrong_line m (first_place p) (page_lines m p) text) (suc (page_lines m p))) (eqb (length text) (line_bytes * page_lines m p))
            (eq-eqb (wrong_line m (first_place p) (page_lines m p) text) (suc (page_lines m p)) (omega (arith, wrong_is, is, wrong_few m first lines text, g.lines_are, l)))
            (eq-eqb (length text) (line_bytes * page_lines m p) (omega (arith, size, g.lines_are)))

        inside : first + lines ≤ edge_count n
        inside = omega (arith, part_of.inside, ap edge_count passed.same)

        some : 0 < edge_count n
        some = some_edges n passed.least

        pub lengths_asked : StoreAsked text first lines (length table / 4)
        lengths_asked = record {
          most = part_of.most;
          few = omega (arith, inside, edges_few n passed.most);
          whole = omega (arith, size);
          inside = omega (arith, inside, passed.whole, size32 table (omega (arith, some, passed.whole)));
        }

        well : well_packed n s ≡ true
        well = whole_well n s passed.marked some

        pub marks_asked : StoreAsked text first lines (4 * length s)
        unfolding packed_bytes
        marks_asked = record {
          most = part_of.most;
          few = omega (arith, inside, edges_few n passed.most);
          whole = omega (arith, size);
          inside = omega (arith, inside, (well-packed n s well).size);
        }

        pub read_done : {table-out set_out : List ℕ} → table-out ≡ overlay (4 * first) (bytes32 (lengths_read text lines)) table → MarksStored text first lines s set_out
            → ReadAs n p text table s is_read table-out set_out
        unfolding read_answer
        read_done {table-out} {set_out} t k =
            let d : read_answer n p text (length (whole32 table)) (marks_of n s) ≡ is_read = rw (read_answer, h, g.page, whole) in
            let count : lines ≡ page_lines n p = g.lines_are ∙ ap (λ (j : ℕ). page_lines j p) passed.same in
            let held = k.stored n well inside in
            let fits : first + length (marks_read text lines) ≤ length (marks_of n s) = omega (arith, inside, marks_count text lines, passed.marked) in
            let size₂ = overlay-length first (marks_read text lines) (marks_of n s) fits ∙ passed.marked in
            let are : are_marks (overlay first (marks_read text lines) (marks_of n s)) ≡ true = ap are_marks (sym held) ∙ marks_are n set_out in
            record {
              answered = sym d;
              table-left = rw d (t ∙ ap₂ (λ (f j : ℕ). overlay (4 * f) (bytes32 (lengths_read text j)) table) g.first_is count);
              set-left = rw d (held_packed set_out some held (record { size = size₂; are = are }) ∙ ap₂ (λ (f j : ℕ). packed (overlay f (marks_read text j) (marks_of n s))) g.first_is count);
            }
