-- PAPER 12 in C: `revosti_read_page` answers 0 exactly for the page of some lengths within the limit and some marks,
-- and 27 with its line exactly for what is no such page; and what `revosti_write_page` writes it reads again, a page
-- and all pages. From the contracts alone. Assumes nothing.
use Prim.Native.Nat.{ℕ, zero, suc, ◌+◌, ◌*◌, ◌/◌, ◌≤◌, ◌<◌}
use mathlib.Core.Path.{◌≡◌, refl, sym, ◌∙◌, ap, ap₂}
use mathlib.Core.Bool.{Bool, true, false}
use mathlib.Core.Logic.{◌↔◌}
use mathlib.Core.List.{List}
use native.Mathlib.Omega.{arith}
use lib.Dec.{leb}
use lib.ListN.{length, take, drop}
use lib.Seq.{take_at}
use Rattle.std.specs.Prelude.{Result, Ok, Err}
use Rattle.lengths.specs.Refusal.{refusal_number, refuse}
use Rattle.lengths.specs.declared.refusal.Refusal.{Refusal}
use Rattle.lengths.specs.declared.refusal.Refusal.TheVariants as why
use Rattle.lists.specs.Test.{unless}
use Rattle.endian.specs.Bytes.{whole32}
use Rattle.marks.specs.Packed.{marks_of}
use Rattle.marks.proofs.PackedSets.{whole_well, packed_marks}
use Rattle.admission.specs.Tests.{tested}
use Rattle.admission.proofs.Passed.{passed}
use Rattle.pages.specs.AllPages.{PageBuffers, read_into, read_pages}
use Rattle.pages.specs.Page.{page_count, is_page, page_text}
use Rattle.pages.specs.PageOf.{Printable, PageOf, WrongPage}
use Rattle.pages.specs.Reading.{Passes, Tried, PageRead, is_read, not_read, page_answer, table_after, set_after}
use Rattle.pages.specs.Writing.{Written, write_tested, write_answer, write_left}
use Rattle.pages.specs.declared.reading.PageRefused.{PageRefused}
use Rattle.pages.proofs.PageAnswers.{Numbered, done, early, told, answer_numbered, read_exactly, told_exactly}
use Rattle.pages.proofs.RoundTrips.{edges_there, pages_there, read_accepted, read_lengths, read_marks, all_lengths, all_packed}
use Rattle.revosti.specs.Outcome.{counted_number}
use Rattle.revosti.specs.Page.{page_read_number, WrittenInC, PageReadInC}
use Rattle.demands.specs.Pages.{Copied, CopiedTo, none, next, PageCopied}
use Rattle.revosti.proofs.RefusalNumbers.{number_within}

-- which answer of reading a number is
number_done : {a : PageRead} → Numbered a → page_read_number a ≡ 0 → a ≡ is_read
unfolding refusal_number
number_done done e = refl
number_done (early k h g) e = absurd (omega (arith, e))
number_done (told line) e = absurd (omega (arith, e))

number_told : {a : PageRead} → Numbered a → (line : ℕ) → page_read_number a ≡ 27 + 256 * line → a ≡ not_read why.PageText line
unfolding refusal_number
number_told done line e = absurd (omega (arith, e))
number_told (early k h g) line e = absurd (omega (arith, e))
number_told (told l) line e = ap (not_read why.PageText) (omega (arith, e))

module _ {n p : ℕ} {text table set : List ℕ} {r : ℕ} {table-out set_out : List ℕ} (c : PageReadInC n p text table set r table-out set_out) where
  -- ONLY SUCH PAGES, in C
  pub read_exactly_in_c : (r ≡ 0) ↔ (Tried n p table set × PageOf n p text)
  read_exactly_in_c =
      let exactly = read_exactly n p text table set in
      (λ e. exactly.0 (number_done (answer_numbered n p text table set) (sym c.answered ∙ e)), λ h. c.answered ∙ ap page_read_number (exactly.1 h))

  -- 27 AND ITS LINE, in C
  pub told_exactly_in_c : (line : ℕ) → (r ≡ 27 + 256 * line) ↔ (Tried n p table set × WrongPage n p text line)
  unfolding refusal_number
  told_exactly_in_c line =
      let exactly = told_exactly n p text table set line in
      (λ e. exactly.0 (number_told (answer_numbered n p text table set) line (sym c.answered ∙ e)), λ h. c.answered ∙ ap page_read_number (exactly.1 h))

-- an answer of writing by its number: a refusal, or the length of a page of an instance
data WriteNumbered (n : ℕ) (lengths marks : List ℕ) (p : ℕ) : Written → Type 0 where
  refused : (k : Refusal) → WriteNumbered n lengths marks p (refuse k)
  all : tested n lengths marks ≡ Ok n → is_page n p ≡ true → WriteNumbered n lengths marks p (Ok (length (page_text n p lengths marks)))

write_numbered : (n : ℕ) (lengths marks : List ℕ) (p size : ℕ) → WriteNumbered n lengths marks p (write_answer n lengths marks p size)
unfolding write_answer
write_numbered n lengths marks p size = by (tested n lengths marks) refl
  where
    sized : tested n lengths marks ≡ Ok n → (a : Bool) → is_page n p ≡ a → (b : Bool)
        → WriteNumbered n lengths marks p (unless a (refuse why.Page) (unless b (refuse why.Buffer) (Ok (length (page_text n p lengths marks)))))
    sized e false f b = refused why.Page
    sized e true f false = refused why.Buffer
    sized e true f true = all e f

    by : (t : Result ℕ Refusal) → tested n lengths marks ≡ t → WriteNumbered n lengths marks p (write_tested t lengths marks p size)
    by (Err k) e = refused k
    by (Ok m) e =
        let q : m ≡ n = (passed e).same in
        rw q (sized (e ∙ ap Ok q) (is_page n p) refl (leb (length (page_text n p lengths marks)) size))

-- a page that is not refused: what is left has it in front, as many bytes as are answered, and it is one of an instance
record Taken (n p : ℕ) (lengths marks : List ℕ) (r : ℕ) (left : List ℕ) : Type 0 where
  instance : Printable n lengths marks
  page : is_page n p ≡ true
  is : take (r / 65536) left ≡ page_text n p lengths marks

taken : {n : ℕ} {lengths marks : List ℕ} {p : ℕ} {text : List ℕ} {r : ℕ} {left : List ℕ} → WrittenInC n lengths marks p text r left → 65536 ≤ r → Taken n p lengths marks r left
taken {n} {lengths} {marks} {p} {text} {r} {left} w h = by (write_numbered n lengths marks p (length text)) w.answered w.text_left
  where
    by : {a : Written} → WriteNumbered n lengths marks p a → r ≡ counted_number a → left ≡ write_left a (page_text n p lengths marks) text → Taken n p lengths marks r left
    by (refused k) e l = absurd (omega (arith, e, number_within k))
    by (all t g) e l =
        let page = page_text n p lengths marks in
        let size : r / 65536 ≡ length page = omega (arith, e) in
        let q = passed t in
        record {
          instance = record { within = q.lengths; marked = record { size = q.marked; are = q.bytes } };
          page = g;
          is = ap₂ (λ (k : ℕ) (x : List ℕ). take k x) size l ∙ take_at page (drop (length page) text) (length page) refl;
        }

-- a page that is copied is one of an instance, and what is left is what reading that page leaves
module _ {n p : ℕ} {from into out : PageBuffers} (c : Copied n p from into out) where
  abbrev lengths : List ℕ
  lengths = whole32 from.table

  abbrev marks : List ℕ
  marks = marks_of n from.set

  page : Taken n p lengths marks c.written c.left
  page = taken c.writes c.not_refused

  copied_table : out.table ≡ table_after n p (page_text n p lengths marks) into.table into.set
  copied_table = c.reads.table-left ∙ ap (λ (text : List ℕ). table_after n p text into.table into.set) page.is

  copied_set : out.set ≡ set_after n p (page_text n p lengths marks) into.table into.set
  copied_set = c.reads.set-left ∙ ap (λ (text : List ℕ). set_after n p text into.table into.set) page.is

  -- ROUND TRIP in C, page p: into whatever table and marks pass the tests
  pub copied_page : Passes n into.table into.set → PageCopied n p from into out c.read
  copied_page t = record {
    accepted = c.reads.answered ∙ ap page_read_number (ap (λ (text : List ℕ). page_answer n p text into.table into.set) page.is ∙ read_accepted p page.instance t page.page);
    lengths = ap whole32 copied_table ∙ read_lengths p page.instance t page.page;
    marks = ap (marks_of n) copied_set ∙ read_marks p page.instance t page.page;
  }

-- pages that are copied leave what reading them leaves
record Read (n : ℕ) (from into : PageBuffers) (k : ℕ) (out : PageBuffers) : Type 0 where
  table : out.table ≡ (read_pages n (whole32 from.table) (marks_of n from.set) k into).table
  set : out.set ≡ (read_pages n (whole32 from.table) (marks_of n from.set) k into).set

copied_to : {n : ℕ} {from into : PageBuffers} {k : ℕ} {out : PageBuffers} → CopiedTo n from into k out → Read n from into k out
unfolding read_pages read_into
copied_to none = record { table = refl; set = refl }
copied_to {n} {from} (next {k} cs c) =
    let r = copied_to cs in
    let text = page_text n (suc k) (whole32 from.table) (marks_of n from.set) in
    record {
      table = copied_table c ∙ ap₂ (λ (table set : List ℕ). table_after n (suc k) text table set) r.table r.set;
      set = copied_set c ∙ ap₂ (λ (table set : List ℕ). set_after n (suc k) text table set) r.table r.set;
    }

-- ROUND TRIP in C, ALL PAGES: into whatever table and marks pass the tests, they leave the board's lengths and its
-- packed set
module _ {n : ℕ} {from into out : PageBuffers} (cs : CopiedTo n from into (page_count n) out) (t : Passes n into.table into.set) where
  whole : Printable n (whole32 from.table) (marks_of n from.set)
  whole = by (page_count n) refl cs
    where
      by : (k : ℕ) {b : PageBuffers} → page_count n ≡ k → CopiedTo n from into k b → Printable n (whole32 from.table) (marks_of n from.set)
      by zero e none = absurd (omega (arith, e, pages_there t))
      by (suc k) e (next cs c) = (page c).instance

  pub all_copied_lengths : whole32 out.table ≡ whole32 from.table
  all_copied_lengths = ap whole32 (copied_to cs).table ∙ all_lengths whole t

  pub all_copied_marks : out.set ≡ from.set
  all_copied_marks =
      let well = whole_well n from.set whole.marked.size (edges_there t) in
      (copied_to cs).set ∙ all_packed whole t ∙ packed_marks n from.set well
