-- Which texts are read as page p, and which line is told of the others, without the reader: a text is accepted exactly
-- when it is the page of some lengths within the limit and some marks; and the line that 27 tells is the first with
-- which no page begins. Assumes nothing.
use Prim.Native.Nat.{ℕ, zero, suc, ◌+◌, ◌-◌, ◌*◌, ◌≤◌, ◌<◌}
use mathlib.Core.Path.{◌≡◌, refl, sym, ◌∙◌, ap, ap₂}
use mathlib.Core.Bool.{Bool, true, false, not}
use mathlib.Core.List.{List, [], ◌∷◌}
use native.Mathlib.Decide.{dec_lt}
use native.Mathlib.Omega.{arith}
use lib.Dec.{eqb}
use lib.ListN.{length, get_or, take, drop, replicate, length-take, length-drop, length-replicate, get_or-replicate, get_or-eq_default}
use lib.Seq.{length-take-le, take_all, take-take, take-add, drop_at}
use borrow.Author.Tests.{eq-eqb, eqb-true, not-true, not-false}
use Rattle.lists.specs.FirstFrom.{first_from}
use Rattle.lists.specs.Test.{AtMost}
use Rattle.lists.proofs.Bools.{and_left, and_right, and_both}
use Rattle.lists.proofs.FirstFrom.{first_from_before, first_from_found, first_from_high, first_from_none}
use Rattle.lengths.specs.Edge.{edge_count}
use Rattle.lengths.specs.Instance.{most_length}
use Rattle.lengths.specs.Table.{Lengths}
use Rattle.lengths.proofs.AtMostTests.{at_most_each, at_most_all}
use Rattle.marks.specs.Mark.{pending_mark, mark_at}
use Rattle.marks.specs.Packed.{ByteSet}
use Rattle.pages.specs.PageLine.{line_bytes, line_text, length_read, mark_read, is_line}
use Rattle.pages.specs.Page.{first_place, page_lines, place_line, joined, page_text}
use Rattle.pages.specs.PageOf.{PageOf, BeginsPage, FirstWrong}
use Rattle.pages.specs.Reading.{line_at, lengths_read, marks_read, right_line, wrong_line, is_page_text, overlay}
use Rattle.pages.specs.asks.Page.{PartAsked}
use Rattle.pages.proofs.Joining.{joined_front, joined-take, joined_part, singles_length, singles_at}
use Rattle.pages.proofs.LineTexts.{RightLine, right-line, line_right, mark_read_small}
use Rattle.pages.proofs.Overlays.{overlay-length, overlay_inside, overlay_most}
use Rattle.pages.proofs.PageLines.{place-line, lines_wide, page_length}
use Rattle.pages.proofs.PageParts.{EdgeAt, edge_there}
use Rattle.pages.proofs.Seeking.{line_of}
use Rattle.pages.proofs.Storing.{lengths_size, marks_count}

-- a part of a list that ends within a front of it
front_part : (a width b : ℕ) (l : List ℕ) → a + width ≤ b → b ≤ length l → take width (drop a l) ≡ drop a (take (a + width) (take b l))
front_part a width b l h g =
    sym (ap (drop a) (take-take (a + width) b l h ∙ take-add a width l) ∙ drop_at (take a l) (take width (drop a l)) a (length-take-le a l (omega arith)))

-- texts with the same front have the same lines there
same_lines : (text page : List ℕ) (k : ℕ) → take (line_bytes * k) text ≡ take (line_bytes * k) page → line_bytes * k ≤ length text → line_bytes * k ≤ length page
    → (j : ℕ) → j < k → line_at text j ≡ line_at page j
unfolding line_at
same_lines text page k e g h j l =
    front_part (line_bytes * j) line_bytes (line_bytes * k) text (omega arith) g
    ∙ ap (λ (x : List ℕ). drop (line_bytes * j) (take (line_bytes * j + line_bytes) x)) e
    ∙ sym (front_part (line_bytes * j) line_bytes (line_bytes * k) page (omega arith) h)

-- no length, no mark
zeros : ℕ → List ℕ
zeros n = replicate (edge_count n) 0

zeros_length : (n : ℕ) → length (zeros n) ≡ edge_count n
unfolding zeros
zeros_length n = length-replicate (edge_count n) 0

zeros_at : (n i : ℕ) → get_or (zeros n) i 0 ≡ 0
unfolding zeros
zeros_at n i = elim (dec_lt i (edge_count n)) [
  | yes h ↦ get_or-replicate (edge_count n) i 0 0 h
  | no h ↦ get_or-eq_default (zeros n) 0 (omega (arith, zeros_length n))
]

over_zeros : (n first most : ℕ) (xs : List ℕ) → first + length xs ≤ edge_count n → AtMost most xs → AtMost most (overlay first xs (zeros n))
over_zeros n first most xs h small = overlay_most first xs (zeros n) (omega (arith, zeros_length n)) most small (λ i. omega (arith, zeros_at n i))

-- every element of a list that is given for each index below its length
each_small : (x : ℕ → ℕ) (k most : ℕ) → ((j : ℕ) → j < k → x j ≤ most) → AtMost most (joined (λ i. x i ∷ []) k)
each_small x k most h i = elim (dec_lt i k) [
  | yes l ↦ omega (arith, singles_at x k i l, h i l)
  | no l ↦ omega (arith, get_or-eq_default (joined (λ i. x i ∷ []) k) 0 {n = i} (omega (arith, singles_length x k)))
]

module _ (n p : ℕ) (q : PartAsked n (first_place p) (page_lines n p)) (text : List ℕ) where
  abbrev first : ℕ
  first = first_place p

  abbrev lines : ℕ
  lines = page_lines n p

  -- the first k lines are right
  abbrev RightTo : ℕ → Type 0
  RightTo k = (j : ℕ) → j < k → right_line n first text j ≡ true

  edge_of : (j : ℕ) → j < lines → EdgeAt n (first + j)
  edge_of j h = edge_there n (first + j) q.few (omega (arith, q.inside))

  right_of : (j : ℕ) (h : j < lines) → right_line n first text j ≡ true → RightLine (edge_of j h).a (edge_of j h).b (line_at text j)
  right_of j h e = right-line _ _ (line_at text j) (sym (line_of n first text j (edge_of j h).is) ∙ e)

  -- a line that is the page's is right
  page_right : (lengths marks : List ℕ) → Lengths n lengths → ByteSet n marks → (j : ℕ) → j < lines → line_at text j ≡ place_line n lengths marks (first + j) → right_line n first text j ≡ true
  unfolding mark_at
  page_right lengths marks w m j h e =
      let at = edge_of j h in
      line_of n first text j at.is
      ∙ ap (is_line at.a at.b) (e ∙ place-line n lengths marks (first + j) at.is)
      ∙ line_right at.points (w.small (first + j)) (at_most_each pending_mark marks m.are (first + j))

  -- k right lines, and the page that begins with them: what is read from them, and zeros elsewhere
  module _ (k : ℕ) (few : k ≤ lines) (right : RightTo k) where
    read_lengths : List ℕ
    read_lengths = overlay first (lengths_read text k) (zeros n)

    read_marks : List ℕ
    read_marks = overlay first (marks_read text k) (zeros n)

    lengths_fit : first + length (lengths_read text k) ≤ edge_count n
    lengths_fit = omega (arith, lengths_size text k, q.inside)

    marks_fit : first + length (marks_read text k) ≤ edge_count n
    marks_fit = omega (arith, marks_count text k, q.inside)

    are_lengths : Lengths n read_lengths
    unfolding read_lengths lengths_read
    are_lengths = record {
      few = q.few;
      whole = overlay-length first (lengths_read text k) (zeros n) (omega (arith, lengths_fit, zeros_length n)) ∙ zeros_length n;
      small = over_zeros n first most_length (lengths_read text k) lengths_fit (each_small (λ j. length_read (line_at text j)) k most_length (λ j h. (right_of j (omega arith) (right j h)).small));
    }

    are_marks : ByteSet n read_marks
    unfolding read_marks marks_read
    are_marks = record {
      size = overlay-length first (marks_read text k) (zeros n) (omega (arith, marks_fit, zeros_length n)) ∙ zeros_length n;
      are = at_most_all pending_mark (overlay first (marks_read text k) (zeros n)) (λ i h. over_zeros n first pending_mark (marks_read text k) marks_fit (each_small (λ j. mark_read (line_at text j)) k pending_mark (λ j g. mark_read_small (line_at text j))) i);
    }

    line_is : (j : ℕ) → j < k → line_at text j ≡ place_line n read_lengths read_marks (first + j)
    unfolding read_lengths read_marks lengths_read marks_read mark_at
    line_is j h =
        let at = edge_of j (omega arith) in
        let r : RightLine at.a at.b (line_at text j) = right_of j (omega arith) (right j h) in
        let l = overlay_inside first (lengths_read text k) (zeros n) (omega (arith, lengths_fit, zeros_length n)) j (omega (arith, lengths_size text k)) ∙ singles_at (λ i. length_read (line_at text i)) k j h in
        let m = overlay_inside first (marks_read text k) (zeros n) (omega (arith, marks_fit, zeros_length n)) j (omega (arith, marks_count text k)) ∙ singles_at (λ i. mark_read (line_at text i)) k j h in
        r.made
        ∙ ap₂ (λ (x y : ℕ). line_text at.a at.b x y) (sym l) (sym m)
        ∙ sym (place-line n read_lengths read_marks (first + j) at.is)

    wide : (j : ℕ) → j < lines → length (place_line n read_lengths read_marks (first + j)) ≡ line_bytes
    wide j h = lines_wide read_lengths read_marks q are_lengths.small j h

    whole_lines : (k₂ : ℕ) → k₂ ≤ k → line_bytes * k₂ ≤ length text
    unfolding line_at
    whole_lines zero h = omega arith
    whole_lines (suc j) h =
        omega (arith, ap length (line_is j h), wide j (omega arith), length-take line_bytes (drop (line_bytes * j) text), length-drop (line_bytes * j) text)

    pub begins : BeginsPage n p text k
    unfolding page_text line_at
    begins = record {
      page = page_text n p read_lengths read_marks;
      is-page = record { lengths = read_lengths; marks = read_marks; instance = record { within = are_lengths; marked = are_marks }; laid_out = refl };
      whole = whole_lines k (omega arith);
      begun =
          joined_front line_bytes text k line_is
          ∙ sym (joined-take (λ j. place_line n read_lengths read_marks (first + j)) line_bytes lines wide k few);
    }

  -- a page has its lines, and no more
  page_bytes : {page : List ℕ} → PageOf n p page → length page ≡ line_bytes * lines
  page_bytes o = ap length o.laid_out ∙ page_length p o.lengths o.marks q o.instance.within.small

  pub page_line : {page : List ℕ} (o : PageOf n p page) (j : ℕ) → j < lines → line_at page j ≡ place_line n o.lengths o.marks (first + j)
  unfolding line_at page_text
  page_line o j h =
      ap (λ (x : List ℕ). take line_bytes (drop (line_bytes * j) x)) o.laid_out
      ∙ joined_part (λ i. place_line n o.lengths o.marks (first + i)) line_bytes lines (lines_wide o.lengths o.marks q o.instance.within.small) j h

  begun_few : (k : ℕ) → BeginsPage n p text k → k ≤ lines
  begun_few k b = omega (arith, ap length b.begun, length-take-le (line_bytes * k) text b.whole, length-take (line_bytes * k) b.page, page_bytes b.is-page)

  begun_right : (k : ℕ) → BeginsPage n p text k → RightTo k
  begun_right k b j h =
      let few = begun_few k b in
      let o = b.is-page in
      page_right o.lengths o.marks o.instance.within o.instance.marked j (omega arith)
      (same_lines text b.page k b.begun b.whole (omega (arith, page_bytes o)) j h ∙ page_line o j (omega arith))

  -- the lines before the first wrong one
  found : ℕ
  found = first_from (λ k. not (right_line n first text k)) 0 lines

  before_right : RightTo found
  unfolding found
  before_right j h = not-false _ (first_from_before (λ k. not (right_line n first text k)) 0 lines j (omega arith) h)

  -- 27'S LINE is the first with which no page begins: the lines before it are right, so some page begins with them; and
  -- it is wrong, or past the last.
  pub told_first : FirstWrong n p text (wrong_line n first lines text)
  unfolding wrong_line found
  told_first = record {
    some = omega arith;
    right = let e : suc found - 1 ≡ found = omega arith in rw e (begins found (omega (arith, first_from_high (λ k. not (right_line n first text k)) 0 lines)) before_right);
    wrong = λ b. no_more b (begun_few (suc found) b);
  }
    where
      no_more : BeginsPage n p text (suc found) → suc found ≤ lines → ⊥
      no_more b l =
          let r = begun_right (suc found) b found (omega arith) in
          let w = first_from_found (λ k. not (right_line n first text k)) 0 lines (omega arith) in
          let z : ◌≡◌ {A = Bool} true false = sym r ∙ not-true _ w in
          let y : ◌≡◌ {A = ℕ} 0 1 = cc in omega arith

  -- ONLY SUCH PAGES: a text is read exactly when it is the page of some lengths within the limit and some marks.
  pub page_read : is_page_text n p text ≡ true → PageOf n p text
  unfolding is_page_text wrong_line found
  page_read h =
      let s = eqb (wrong_line n first lines text) (suc lines) in
      let t = eqb (length text) (line_bytes * lines) in
      let w = eqb-true (wrong_line n first lines text) (suc lines) (and_left s t h) in
      let size = eqb-true (length text) (line_bytes * lines) (and_right s t h) in
      let b = begins lines (omega arith) (λ j l. before_right j (at w j l)) in
      let o = b.is-page in
      let e : text ≡ b.page = sym (take_all (line_bytes * lines) text (omega arith)) ∙ b.begun ∙ take_all (line_bytes * lines) b.page (omega (arith, page_bytes o)) in
      record { lengths = o.lengths; marks = o.marks; instance = o.instance; laid_out = e ∙ o.laid_out }
    where
      at : wrong_line n first lines text ≡ suc lines → (j : ℕ) → j < lines → j < found
      at w j l = omega (arith, w, l)

  pub read_page : PageOf n p text → is_page_text n p text ≡ true
  unfolding is_page_text wrong_line
  read_page o =
      let none = first_from_none (λ k. not (right_line n first text k)) 0 lines (λ j g h. ap not (page_right o.lengths o.marks o.instance.within o.instance.marked j (omega arith) (page_line o j (omega arith)))) in
      and_both (eqb (wrong_line n first lines text) (suc lines)) (eqb (length text) (line_bytes * lines))
      (eq-eqb (wrong_line n first lines text) (suc lines) (omega (arith, none)))
      (eq-eqb (length text) (line_bytes * lines) (page_bytes o))

-- fewer lines of a text that begins a page begin it too, so there is one first wrong line only
begins_fewer : {n p : ℕ} {text : List ℕ} {j k : ℕ} → j ≤ k → BeginsPage n p text k → BeginsPage n p text j
begins_fewer {text = text} {j} {k} h b = record {
  page = b.page;
  is-page = b.is-page;
  whole = omega (arith, b.whole);
  begun = sym (take-take (line_bytes * j) (line_bytes * k) text (omega arith)) ∙ ap (take (line_bytes * j)) b.begun ∙ take-take (line_bytes * j) (line_bytes * k) b.page (omega arith);
}

pub one_first_wrong : {n p : ℕ} {text : List ℕ} {k l : ℕ} → FirstWrong n p text k → FirstWrong n p text l → k ≡ l
one_first_wrong {k = k} {l} f g = elim (dec_lt k l) [
  | yes h ↦ absurd (f.wrong (begins_fewer (omega arith) g.right))
  | no h ↦ elim (dec_lt l k) [
    | yes r ↦ absurd (g.wrong (begins_fewer (omega arith) f.right))
    | no r ↦ omega arith
  ]
]
