-- The ways out of `write_page`: the answer and the text that is left. Assumes nothing.
use Prim.Native.Nat.{ℕ, ◌*◌, ◌≤◌, ◌<◌}
use mathlib.Core.Path.{◌≡◌, sym, ◌∙◌, ap, ap₂, subst}
use mathlib.Core.Bool.{true, false}
use mathlib.Core.List.{List}
use native.Mathlib.Omega.{arith}
use lib.ListN.{length}
use borrow.Author.Tests.{le-leb, lt-leb}
use Rattle.marks.specs.Packed.{marks_of}
use Rattle.admission.specs.Tests.{tested}
use Rattle.std.specs.Prelude.{Ok, Err}
use Rattle.lengths.specs.Refusal.{refuse}
use Rattle.lengths.specs.declared.refusal.Refusal.{Refusal}
use Rattle.lengths.specs.declared.refusal.Refusal.TheVariants as why
use Rattle.admission.proofs.Passed.{InstancePassed, passed}
use Rattle.text.specs.Words.{Wrote}
use Rattle.pages.specs.PageLine.{line_bytes}
use Rattle.pages.specs.Page.{is_page, first_place, page_lines, page_of, page_text}
use Rattle.pages.specs.Writing.{write_answer, WrittenAs}
use Rattle.pages.specs.asks.Page.{PartAsked}
use Rattle.pages.specs.asks.Writing.{lines_from, LinesAsked}
use Rattle.pages.proofs.LineTexts.{wrote_as}
use Rattle.pages.proofs.PageLines.{page_length, lines_length, wrote_front}
use Rattle.pages.proofs.PageParts.{Paged, not_paged, page_part, paged_part}

pub write_tests : {n : ℕ} {lengths marks : List ℕ} {p : ℕ} {text : List ℕ} {r : Refusal} → tested n lengths marks ≡ Err r → WrittenAs n lengths marks p text (refuse r) text
unfolding write_answer
write_tests h = record { answered = rw (write_answer, h); text_left = rw (write_answer, h) }

-- the tests are passed, and n is answered
module _ (n : ℕ) (lengths marks : List ℕ) (p : ℕ) (h : tested n lengths marks ≡ Ok n) where
  no_page : {text : List ℕ} → is_page n p ≡ false → WrittenAs n lengths marks p text (refuse why.Page) text
  unfolding write_answer
  no_page f = record { answered = rw (write_answer, h, f); text_left = rw (write_answer, h, f) }

  module _ (t : is_page n p ≡ true) where
    pub page_there : PartAsked n (first_place p) (page_lines n p)
    page_there = let q : InstancePassed n lengths marks n = passed h in page_part p q.least q.lengths.few t

    pub page_size : length (page_text n p lengths marks) ≡ line_bytes * page_lines n p
    page_size = let q : InstancePassed n lengths marks n = passed h in page_length p lengths marks page_there q.lengths.small

    too_short : (text : List ℕ) → length text < line_bytes * page_lines n p → WrittenAs n lengths marks p text (refuse why.Buffer) text
    unfolding write_answer
    too_short text l =
        let s = lt-leb (length (page_text n p lengths marks)) (length text) (omega (arith, page_size)) in
        record { answered = rw (write_answer, h, t, s); text_left = rw (write_answer, h, t, s) }

    pub page_wrote : {text : List ℕ} {r : ℕ} {left : List ℕ} → line_bytes * page_lines n p ≤ length text → Wrote text 0 (page_text n p lengths marks) r left → WrittenAs n lengths marks p text (Ok r) left
    unfolding write_answer
    page_wrote {text} {r} {left} l w =
        let s = le-leb (length (page_text n p lengths marks)) (length text) (omega (arith, page_size)) in
        let e : r ≡ length (page_text n p lengths marks) = omega (arith, w.next) in
        record { answered = ap Ok e ∙ rw (write_answer, h, t, s); text_left = rw (write_answer, h, t, s) (wrote_front w) }

-- as the code has them: the tests answer m, which is n
module _ (n : ℕ) (lengths s : List ℕ) {m : ℕ} (h : tested n lengths (marks_of n s) ≡ Ok m) where
  points : m ≡ n
  points = let q : InstancePassed n lengths (marks_of n s) m = passed h in q.same

  here : tested n lengths (marks_of n s) ≡ Ok n
  here = h ∙ ap Ok points

  pub write_page : {p : ℕ} {text : List ℕ} {r : Refusal} → page_of m p ≡ Err r → WrittenAs n lengths (marks_of n s) p text (refuse r) text
  write_page {p} g =
      let q = not_paged n p (ap (λ (k : ℕ). page_of k p) (sym points) ∙ g) in
      rw q.1 (no_page n lengths (marks_of n s) p here q.0)

  module _ {p first lines : ℕ} (g : Paged m p first lines) where
    paged_here : Paged n p first lines
    paged_here = subst (λ (k : ℕ). Paged k p first lines) points g

    pub part_of : PartAsked m first lines
    part_of = let q : InstancePassed n lengths (marks_of n s) m = passed h in paged_part q.least q.lengths.few g

    pub write_short : (text : List ℕ) → length text < line_bytes * lines → WrittenAs n lengths (marks_of n s) p text (refuse why.Buffer) text
    write_short text l = too_short n lengths (marks_of n s) p here paged_here.page text (omega (arith, paged_here.lines_are))

    held : marks_of m s ≡ marks_of n s
    held = ap (λ (k : ℕ). marks_of k s) points

    pub write_asked : {text : List ℕ} → line_bytes * lines ≤ length text → LinesAsked m lengths (marks_of m s) first lines text
    write_asked l =
        let q : InstancePassed n lengths (marks_of n s) m = passed h in
        record { part = part_of; within = q.lengths; marked = ap length held ∙ q.marked; room = l }

    module _ {text : List ℕ} {r : ℕ} {left : List ℕ} (w : Wrote text 0 (lines_from m lengths (marks_of m s) first lines) r left) where
      pub write_few : r ≤ 1500
      write_few =
          let q : InstancePassed n lengths (marks_of n s) m = passed h in
          omega (arith, w.next, part_of.most, lines_length lengths (marks_of m s) part_of q.lengths.small lines (omega arith))

      page_is : lines_from m lengths (marks_of m s) first lines ≡ page_text n p lengths (marks_of n s)
      unfolding page_text
      page_is =
          ap₂ (λ (f l : ℕ). lines_from m lengths (marks_of m s) f l) g.first_is g.lines_are
          ∙ ap (λ (k : ℕ). page_text k p lengths (marks_of k s)) points

      pub write_done : line_bytes * lines ≤ length text → WrittenAs n lengths (marks_of n s) p text (Ok r) left
      write_done l = page_wrote n lengths (marks_of n s) p here paged_here.page (omega (arith, paged_here.lines_are)) (wrote_as page_is w)
