-- What is written is read again: page p, read into any table and marks that pass the tests, sets exactly its edges to
-- what was written; and all pages of an instance, read one after the other, leave its lengths and its marks.
-- Assumes nothing.
use Prim.Native.Nat.{ℕ, zero, suc, ◌+◌, ◌-◌, ◌*◌, ◌^◌, ◌≤◌, ◌<◌}
use mathlib.Core.Path.{◌≡◌, refl, sym, ◌∙◌, ap}
use mathlib.Core.Bool.{true}
use mathlib.Core.List.{List}
use native.Mathlib.Decide.{dec_lt}
use native.Mathlib.Omega.{arith}
use lib.ListN.{length, get_or, drop, length-take, length-drop, get_or-eq_default}
use lib.Dec.{leb}
use lib.Seq.{get_or-take, get_or-drop, ext_get_or}
use borrow.Author.Tests.{le-leb}
use Rattle.lists.specs.Test.{AtMost}
use Rattle.lists.proofs.Bools.{and_both}
use Rattle.endian.specs.Bytes.{bytes32, whole32}
use Rattle.endian.proofs.Reading.{size32}
use Rattle.lengths.specs.Edge.{edge_count}
use Rattle.lengths.specs.Instance.{most_length}
use Rattle.lengths.proofs.AtMostTests.{at_most_each, at_most_all}
use Rattle.marks.specs.Mark.{pending_mark, mark_at}
use Rattle.marks.specs.Packed.{ByteSet, packed, marks_of}
use Rattle.marks.proofs.PackedMarks.{held_packed}
use Rattle.marks.proofs.PackedSets.{some_edges, marks_are, marks_packed}
use Rattle.pages.specs.AllPages.{PageBuffers, read_into, read_pages}
use Rattle.pages.specs.PageLine.{length_read, mark_read}
use Rattle.pages.specs.Page.{most_lines, page_count, is_page, first_place, page_lines, part_of, place_line, page_text}
use Rattle.pages.specs.PageOf.{Printable, PageOf}
use Rattle.pages.specs.Reading.{line_at, lengths_read, marks_read, Passes, is_read, read_answer, overlay, page_answer, table_after, set_after}
use Rattle.pages.specs.asks.Page.{PartAsked}
use Rattle.pages.proofs.Joining.{singles_at}
use Rattle.pages.proofs.LineTexts.{length_again, mark_again}
use Rattle.pages.proofs.Overlays.{overlay-length, overlay_before, overlay_inside, overlay_most}
use Rattle.pages.proofs.PageLines.{place-line}
use Rattle.pages.proofs.PageParts.{page_part, edge_there}
use Rattle.pages.proofs.PageReading.{page_line, read_page}
use Rattle.admission.proofs.Passed.{PlacesPassed, places, places_pass}
use Rattle.pages.proofs.Storing.{lengths_size, marks_count}
use Rattle.pages.proofs.WholeNumbers.{whole_overlay}

module _ {n : ℕ} {table set : List ℕ} (t : Passes n table set) where
  passed : PlacesPassed n (length (whole32 table)) (marks_of n set) n
  passed = places t.tests

  pub part_there : (p : ℕ) → is_page n p ≡ true → PartAsked n (first_place p) (page_lines n p)
  part_there p h = page_part p passed.least passed.most h

  -- there is an edge, so there is a page
  pub edges_there : 0 < edge_count n
  edges_there = some_edges n passed.least

  pub pages_there : 0 < page_count n
  unfolding page_count
  pages_there = omega (arith, edges_there)

module _ {n : ℕ} (p : ℕ) {lengths marks table set : List ℕ} (i : Printable n lengths marks) (t : Passes n table set) (h : is_page n p ≡ true) where
  text : List ℕ
  text = page_text n p lengths marks

  the_page : PageOf n p text
  unfolding text
  the_page = record { lengths = lengths; marks = marks; instance = i; laid_out = refl }

  part : PartAsked n (first_place p) (page_lines n p)
  part = part_there t p h

  -- what is read from line j is what was written
  module _ (j : ℕ) (l : j < page_lines n p) where
    line_made : line_at text j ≡ place_line n lengths marks (first_place p + j)
    unfolding the_page
    line_made = page_line n p part text the_page j l

    length_made : length_read (line_at text j) ≡ get_or lengths (first_place p + j) 0
    length_made =
        let e = edge_there n (first_place p + j) part.few (omega (arith, part.inside)) in
        ap length_read (line_made ∙ place-line n lengths marks (first_place p + j) e.is) ∙ length_again e.points (i.within.small (first_place p + j)) _

    mark_made : mark_read (line_at text j) ≡ get_or marks (first_place p + j) 0
    unfolding mark_at
    mark_made =
        let e = edge_there n (first_place p + j) part.few (omega (arith, part.inside)) in
        ap mark_read (line_made ∙ place-line n lengths marks (first_place p + j) e.is)
        ∙ mark_again e.points (i.within.small (first_place p + j)) (at_most_each pending_mark marks i.marked.are (first_place p + j))

  part_length : (xs : List ℕ) → length xs ≡ edge_count n → length (part_of n p xs) ≡ page_lines n p
  part_length xs size = omega (arith, length-take (page_lines n p) (drop (first_place p) xs), length-drop (first_place p) xs, part.inside, size)

  part_at : (xs : List ℕ) (j : ℕ) → j < page_lines n p → get_or (part_of n p xs) j 0 ≡ get_or xs (first_place p + j) 0
  part_at xs j l = get_or-take (page_lines n p) (drop (first_place p) xs) j 0 l ∙ get_or-drop (first_place p) xs j 0

  lengths_made : lengths_read text (page_lines n p) ≡ part_of n p lengths
  unfolding lengths_read
  lengths_made = ext_get_or 0 (lengths_read text (page_lines n p)) (part_of n p lengths) (lengths_size text (page_lines n p) ∙ sym (part_length lengths i.within.whole))
      (λ j l. let k : j < page_lines n p = omega (arith, lengths_size text (page_lines n p)) in singles_at (λ m. length_read (line_at text m)) (page_lines n p) j k ∙ length_made j k ∙ sym (part_at lengths j k))

  marks_made : marks_read text (page_lines n p) ≡ part_of n p marks
  unfolding marks_read
  marks_made = ext_get_or 0 (marks_read text (page_lines n p)) (part_of n p marks) (marks_count text (page_lines n p) ∙ sym (part_length marks i.marked.size))
      (λ j l. let k : j < page_lines n p = omega (arith, marks_count text (page_lines n p)) in singles_at (λ m. mark_read (line_at text m)) (page_lines n p) j k ∙ mark_made j k ∙ sym (part_at marks j k))

  -- ROUND TRIP, page p: it is accepted, and sets exactly its edges to what was written. Each line says its length and
  -- its mark, so what is read is the page's part of both; and the numbers of the table's bytes after writing over a
  -- part are the numbers with that part written over.
  pub read_accepted : page_answer n p (page_text n p lengths marks) table set ≡ is_read
  unfolding read_answer text
  read_accepted = rw (read_answer, t.tests, h, read_page n p part text the_page)

  -- a limit of a list is one of its part
  part_most : (most : ℕ) (xs : List ℕ) → length xs ≡ edge_count n → AtMost most xs → AtMost most (part_of n p xs)
  part_most most xs size small k = elim (dec_lt k (page_lines n p)) [
    | yes l ↦ omega (arith, part_at xs k l, small (first_place p + k))
    | no l ↦ omega (arith, get_or-eq_default (part_of n p xs) 0 {n = k} (omega (arith, part_length xs size)))
  ]

  small_part : (k : ℕ) → get_or (part_of n p lengths) k 0 < 2 ^ 32
  small_part k = omega (arith, part_most most_length lengths i.within.whole i.within.small k)

  pub read_lengths : whole32 (table_after n p (page_text n p lengths marks) table set) ≡ overlay (first_place p) (part_of n p lengths) (whole32 table)
  unfolding text
  read_lengths =
      rw read_accepted
      (ap (λ (xs : List ℕ). whole32 (overlay (4 * first_place p) (bytes32 xs) table)) lengths_made
      ∙ whole_overlay (first_place p) (edge_count n) (part_of n p lengths) table small_part
      (size32 table (omega (arith, (passed t).whole, some_edges n (passed t).least)) ∙ ap (λ (k : ℕ). 4 * k) (passed t).whole)
      (omega (arith, part_length lengths i.within.whole, part.inside)))

  new_marks : ByteSet n (overlay (first_place p) (part_of n p marks) (marks_of n set))
  new_marks =
      let fits : first_place p + length (part_of n p marks) ≤ length (marks_of n set) = omega (arith, part_length marks i.marked.size, part.inside, (passed t).marked) in
      let most = overlay_most (first_place p) (part_of n p marks) (marks_of n set) fits pending_mark (part_most pending_mark marks i.marked.size (at_most_each pending_mark marks i.marked.are)) (at_most_each pending_mark (marks_of n set) (passed t).are) in
      record {
        size = overlay-length (first_place p) (part_of n p marks) (marks_of n set) fits ∙ (passed t).marked;
        are = at_most_all pending_mark (overlay (first_place p) (part_of n p marks) (marks_of n set)) (λ k l. most k);
      }

  pub read_marks : marks_of n (set_after n p (page_text n p lengths marks) table set) ≡ overlay (first_place p) (part_of n p marks) (marks_of n set)
  unfolding text
  read_marks = rw read_accepted (ap (λ (xs : List ℕ). marks_of n (packed (overlay (first_place p) xs (marks_of n set)))) marks_made ∙ marks_packed new_marks)

  pub still_passes : Passes n (table_after n p (page_text n p lengths marks) table set) (set_after n p (page_text n p lengths marks) table set)
  still_passes =
      let fits : first_place p + length (part_of n p lengths) ≤ length (whole32 table) = omega (arith, part_length lengths i.within.whole, part.inside, (passed t).whole) in
      let size = ap length read_lengths ∙ overlay-length (first_place p) (part_of n p lengths) (whole32 table) fits ∙ (passed t).whole in
      let set_out = set_after n p (page_text n p lengths marks) table set in
      record { tests = places_pass (marks_of n set_out) (passed t).range size (ap length read_marks ∙ new_marks.size) (marks_are n set_out) }

  -- what stands at a place after reading: where the page tells it, what was written
  module _ (k : ℕ) (few : k < first_place p + page_lines n p) where
    over_part : (new old : List ℕ) → length new ≡ edge_count n → length old ≡ edge_count n → (k < first_place p → get_or old k 0 ≡ get_or new k 0) → get_or (overlay (first_place p) (part_of n p new) old) k 0 ≡ get_or new k 0
    over_part new old size size₂ before =
        let fits : first_place p + length (part_of n p new) ≤ length old = omega (arith, part_length new size, part.inside) in
        elim (dec_lt k (first_place p)) [
          | yes l ↦ overlay_before (first_place p) (part_of n p new) old fits k l ∙ before l
          | no l ↦
              let e : k ≡ first_place p + (k - first_place p) = omega arith in
              ap (λ (j : ℕ). get_or (overlay (first_place p) (part_of n p new) old) j 0) e
              ∙ overlay_inside (first_place p) (part_of n p new) old fits (k - first_place p) (omega (arith, part_length new size))
              ∙ part_at new (k - first_place p) (omega arith)
              ∙ ap (λ (j : ℕ). get_or new j 0) (sym e)
        ]

    pub told_length : (k < first_place p → get_or (whole32 table) k 0 ≡ get_or lengths k 0) → get_or (whole32 (table_after n p (page_text n p lengths marks) table set)) k 0 ≡ get_or lengths k 0
    told_length before = ap (λ (xs : List ℕ). get_or xs k 0) read_lengths ∙ over_part lengths (whole32 table) i.within.whole (passed t).whole before

    pub told_mark : (k < first_place p → get_or (marks_of n set) k 0 ≡ get_or marks k 0) → get_or (marks_of n (set_after n p (page_text n p lengths marks) table set)) k 0 ≡ get_or marks k 0
    told_mark before = ap (λ (xs : List ℕ). get_or xs k 0) read_marks ∙ over_part marks (marks_of n set) i.marked.size (passed t).marked before

-- pages 1 to k are read
record ReadTo (n : ℕ) (lengths marks : List ℕ) (k : ℕ) (b : PageBuffers) : Type 0 where
  passes : Passes n b.table b.set
  lengths_to : (i : ℕ) → i < most_lines * k → i < edge_count n → get_or (whole32 b.table) i 0 ≡ get_or lengths i 0
  marks_to : (i : ℕ) → i < most_lines * k → i < edge_count n → get_or (marks_of n b.set) i 0 ≡ get_or marks i 0

module _ {n : ℕ} {lengths marks : List ℕ} (i : Printable n lengths marks) where
  there : (k : ℕ) → suc k ≤ page_count n → is_page n (suc k) ≡ true
  unfolding is_page
  there k h = and_both (leb 1 (suc k)) (leb (suc k) (page_count n)) (le-leb 1 (suc k) (omega arith)) (le-leb (suc k) (page_count n) h)

  told : (k j : ℕ) → j < most_lines * suc k → j < edge_count n → j < first_place (suc k) + page_lines n (suc k)
  unfolding first_place page_lines
  told k j h g = omega arith

  earlier : (k j : ℕ) → j < first_place (suc k) → j < most_lines * k
  unfolding first_place
  earlier k j h = omega arith

  read_next : (k : ℕ) (b : PageBuffers) → suc k ≤ page_count n → ReadTo n lengths marks k b → ReadTo n lengths marks (suc k) (read_into n (suc k) (page_text n (suc k) lengths marks) b)
  unfolding read_into
  read_next k b h r = record {
    passes = still_passes (suc k) i r.passes (there k h);
    lengths_to = λ j l g. told_length (suc k) i r.passes (there k h) j (told k j l g) (λ e. r.lengths_to j (earlier k j e) g);
    marks_to = λ j l g. told_mark (suc k) i r.passes (there k h) j (told k j l g) (λ e. r.marks_to j (earlier k j e) g);
  }

  read_to : (k : ℕ) → k ≤ page_count n → {b : PageBuffers} → Passes n b.table b.set → ReadTo n lengths marks k (read_pages n lengths marks k b)
  unfolding read_pages
  read_to zero h t = record { passes = t; lengths_to = λ j l g. absurd (omega arith); marks_to = λ j l g. absurd (omega arith) }
  read_to (suc k) h {b} t = read_next k (read_pages n lengths marks k b) h (read_to k (omega arith) t)

  covered : (j : ℕ) → j < edge_count n → j < most_lines * page_count n
  unfolding page_count
  covered j h = omega arith

  -- ROUND TRIP, ALL PAGES: reading them one after the other, into whatever table and marks pass the tests, leaves the
  -- instance's lengths and its packed marks. Each page sets its edges and leaves the others, and every edge is on
  -- one of the pages.
  module _ {b : PageBuffers} (t : Passes n b.table b.set) where
    abbrev left : PageBuffers
    left = read_pages n lengths marks (page_count n) b

    all : ReadTo n lengths marks (page_count n) left
    all = read_to (page_count n) (omega arith) t

    pub all_lengths : whole32 (read_pages n lengths marks (page_count n) b).table ≡ lengths
    all_lengths =
        let size = (passed all.passes).whole in
        ext_get_or 0 (whole32 left.table) lengths (size ∙ sym i.within.whole) (λ j h. let g : j < edge_count n = omega (arith, size) in all.lengths_to j (covered j g) g)

    pub all_marks : marks_of n (read_pages n lengths marks (page_count n) b).set ≡ marks
    all_marks =
        let size = (passed all.passes).marked in
        ext_get_or 0 (marks_of n left.set) marks (size ∙ sym i.marked.size) (λ j h. let g : j < edge_count n = omega (arith, size) in all.marks_to j (covered j g) g)

    pub all_packed : (read_pages n lengths marks (page_count n) b).set ≡ packed marks
    all_packed = held_packed left.set (edges_there t) all_marks i.marked
