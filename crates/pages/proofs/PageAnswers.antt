-- The answers of reading, without the reader: a page is accepted exactly when 1, 2, 6 and 26 pass and the text is the
-- page of some lengths within the limit and some marks; and 27 is told exactly when they pass and it is not, with the
-- first line with which no page begins. Assumes nothing.
use Prim.Native.Nat.{ℕ, ◌≤◌}
use mathlib.Core.Path.{◌≡◌, refl, sym, ◌∙◌, ap, subst}
use mathlib.Core.Bool.{Bool, true, false}
use mathlib.Core.Logic.{◌↔◌}
use mathlib.Core.List.{List}
use native.Mathlib.Omega.{arith}
use lib.ListN.{length}
use Rattle.lists.specs.Test.{unless}
use Rattle.lists.proofs.Bools.{never_true}
use Rattle.endian.specs.Bytes.{whole32}
use Rattle.marks.specs.Packed.{marks_of}
use Rattle.std.specs.Prelude.{Result, Ok, Err}
use Rattle.lengths.specs.Refusal.{refusal_number}
use Rattle.lengths.specs.declared.refusal.Refusal.{Refusal}
use Rattle.lengths.specs.declared.refusal.Refusal.TheVariants as why
use Rattle.pages.specs.Page.{is_page, first_place, page_lines}
use Rattle.pages.specs.PageOf.{PageOf, WrongPage}
use Rattle.pages.specs.Reading.{wrong_line, is_page_text, Tried, read_tested, page_refused, PageRead, is_read, not_read, read_answer, page_answer}
use Rattle.admission.specs.Tested.{first_failing, mark_tests}
use Rattle.admission.specs.Tests.{place_tests, places_tested}
use Rattle.pages.specs.declared.reading.PageRefused.{PageRefused}
use Rattle.pages.proofs.PageReading.{page_read, read_page, told_first, one_first_wrong}
use Rattle.admission.proofs.Deciding.{refused_by, until_refused}
use Rattle.admission.proofs.Passed.{places}
use Rattle.pages.proofs.RoundTrips.{part_there}

-- the tests of the table and the marks refuse by a number from 1 to 6
abbrev Few : Refusal → Type 0
Few r = (1 ≤ refusal_number r) × (refusal_number r ≤ 6)

tests_few : (n size : ℕ) (marks : List ℕ) {r : Refusal} → places_tested n size marks ≡ Err r → Few r
unfolding places_tested refusal_number
tests_few n size marks h =
    until_refused Few (first_failing n (place_tests n size)) (mark_tests marks)
    (λ j. refused_by Few n (place_tests n size) ((omega arith, omega arith), ((omega arith, omega arith), tt)))
    (λ m. ((omega arith, omega arith), ((omega arith, omega arith), tt))) h

-- an answer by its number: 27 names a line, any other refusal line 0
pub data Numbered : PageRead → Type 0 where
  done : Numbered is_read
  early : (r : Refusal) → 1 ≤ refusal_number r → refusal_number r ≤ 26 → Numbered (not_read r 0)
  told : (line : ℕ) → Numbered (not_read why.PageText line)

pub answer_numbered : (n p : ℕ) (text table set : List ℕ) → Numbered (page_answer n p text table set)
unfolding read_answer refusal_number
answer_numbered n p text table set = by (places_tested n (length (whole32 table)) (marks_of n set)) refl
  where
    paged : (a b : Bool) (line : ℕ) → Numbered (unless a (not_read why.Page 0) (unless b (not_read why.PageText line) is_read))
    paged false b line = early why.Page (omega arith) (omega arith)
    paged true false line = told line
    paged true true line = done

    by : (r : Result ℕ Refusal) → places_tested n (length (whole32 table)) (marks_of n set) ≡ r → Numbered (read_tested r p text)
    by (Err r) e = let f = tests_few n (length (whole32 table)) (marks_of n set) e in early r f.0 (omega (arith, f.1))
    by (Ok m) e = paged (is_page m p) (is_page_text m p text) (wrong_line m (first_place p) (page_lines m p) text)

-- the answer behind the tests
module _ {n p : ℕ} {table set : List ℕ} (t : Tried n p table set) (text : List ℕ) where
  behind : page_answer n p text table set ≡ unless (is_page_text n p text) (not_read why.PageText (wrong_line n (first_place p) (page_lines n p) text)) is_read
  unfolding read_answer
  behind = rw (read_answer, t.passes.tests, t.page)

  read_so : is_page_text n p text ≡ true → page_answer n p text table set ≡ is_read
  read_so e = behind ∙ ap (λ (b : Bool). unless b (not_read why.PageText (wrong_line n (first_place p) (page_lines n p) text)) is_read) e

  told_so : is_page_text n p text ≡ false → page_answer n p text table set ≡ not_read why.PageText (wrong_line n (first_place p) (page_lines n p) text)
  told_so e = behind ∙ ap (λ (b : Bool). unless b (not_read why.PageText (wrong_line n (first_place p) (page_lines n p) text)) is_read) e

-- what an answer that only comes behind the tests says: that they were passed
record Behind (n p : ℕ) (text table set : List ℕ) (answer : PageRead) : Type 0 where
  tried : Tried n p table set
  rest : unless (is_page_text n p text) (not_read why.PageText (wrong_line n (first_place p) (page_lines n p) text)) is_read ≡ answer

module _ {n p : ℕ} {text table set : List ℕ} {answer : PageRead} (early : (r : Refusal) → refusal_number r ≤ 26 → not_read r 0 ≡ answer → ⊥) where
  answer_behind : page_answer n p text table set ≡ answer → Behind n p text table set answer
  unfolding read_answer refusal_number
  answer_behind h = by (places_tested n (length (whole32 table)) (marks_of n set)) refl h
    where
      paged : {m : ℕ} → places_tested n (length (whole32 table)) (marks_of n set) ≡ Ok m → m ≡ n → (b : Bool) → is_page n p ≡ b
          → unless b (not_read why.Page 0) (unless (is_page_text n p text) (not_read why.PageText (wrong_line n (first_place p) (page_lines n p) text)) is_read) ≡ answer → Behind n p text table set answer
      paged e q false f g = absurd (early why.Page (omega arith) g)
      paged e q true f g = record { tried = record { passes = record { tests = e ∙ ap Ok q }; page = f }; rest = g }

      by : (r : Result ℕ Refusal) → places_tested n (length (whole32 table)) (marks_of n set) ≡ r → read_tested r p text ≡ answer → Behind n p text table set answer
      by (Err r) e g = absurd (early r (omega (arith, (tests_few n (length (whole32 table)) (marks_of n set) e).1)) g)
      by (Ok m) e g = let q = (places e).same in paged e q (is_page n p) refl (rw q at g)

-- ONLY SUCH PAGES
pub read_exactly : (n p : ℕ) (text table set : List ℕ) → (page_answer n p text table set ≡ is_read) ↔ (Tried n p table set × PageOf n p text)
read_exactly n p text table set = (there, back)
  where
    early : (r : Refusal) → refusal_number r ≤ 26 → not_read r 0 ≡ is_read → ⊥
    early r h e = cc

    there : page_answer n p text table set ≡ is_read → Tried n p table set × PageOf n p text
    there h =
        let b : Behind n p text table set is_read = answer_behind early h in
        (b.tried, page_read n p (part_there b.tried.passes p b.tried.page) text (accepted (is_page_text n p text) b.rest))
      where
        accepted : (s : Bool) → unless s (not_read why.PageText (wrong_line n (first_place p) (page_lines n p) text)) is_read ≡ is_read → s ≡ true
        accepted true e = refl
        accepted false e = absurd cc

    back : Tried n p table set × PageOf n p text → page_answer n p text table set ≡ is_read
    back h = let t = h.0 in read_so t text (read_page n p (part_there t.passes p t.page) text h.1)

late : refusal_number why.PageText ≤ 26 → ⊥
unfolding refusal_number
late h = omega arith

-- 27 AND ITS LINE
pub told_exactly : (n p : ℕ) (text table set : List ℕ) (line : ℕ) → (page_answer n p text table set ≡ not_read why.PageText line) ↔ (Tried n p table set × WrongPage n p text line)
told_exactly n p text table set line = (there, back)
  where
    early : (r : Refusal) → refusal_number r ≤ 26 → not_read r 0 ≡ not_read why.PageText line → ⊥
    early r h e =
        let z : page_refused r 0 ≡ page_refused why.PageText line = cc in
        late (subst (λ (k : PageRefused). refusal_number k.refusal ≤ 26) z h)

    there : page_answer n p text table set ≡ not_read why.PageText line → Tried n p table set × WrongPage n p text line
    there h =
        let b : Behind n p text table set (not_read why.PageText line) = answer_behind early h in
        let q = part_there b.tried.passes p b.tried.page in
        let r = refused (is_page_text n p text) b.rest in
        (b.tried, record { no_page = λ o. apart (sym (read_page n p q text o) ∙ r.0); first = rw r.1 (told_first n p q text) })
      where
        apart : ◌≡◌ {A = Bool} true false → ⊥
        apart e = cc

        refused : (s : Bool) → unless s (not_read why.PageText (wrong_line n (first_place p) (page_lines n p) text)) is_read ≡ not_read why.PageText line → (s ≡ false) × (line ≡ wrong_line n (first_place p) (page_lines n p) text)
        refused true e = absurd cc
        refused false e =
            let z : page_refused why.PageText line ≡ page_refused why.PageText (wrong_line n (first_place p) (page_lines n p) text) = cc in
            (refl, ap (λ (k : PageRefused). k.line) z)

    back : Tried n p table set × WrongPage n p text line → page_answer n p text table set ≡ not_read why.PageText line
    back h =
        let t = h.0 in
        let w = h.1 in
        let q = part_there t.passes p t.page in
        told_so t text (never_true (is_page_text n p text) (λ e. w.no_page (page_read n p q text e))) ∙ ap (not_read why.PageText) (one_first_wrong (told_first n p q text) w.first)
