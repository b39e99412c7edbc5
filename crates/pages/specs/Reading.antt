-- The operation "read a page" (02, Paper 12), "by n and page number, into a lent table and marks": 1, 2, 6, 26, 27.
use Rattle.std.specs.Prelude.{
  ℕ,
  suc,
  ◌+◌,
  ◌*◌,
  ◌≡◌,
  Bool,
  true,
  not,
  ◌&&◌,
  List,
  [],
  ◌∷◌,
  ◌++◌,
  Result,
  Ok,
  Err,
  eqb,
  length,
  take,
  drop,
}
use Rattle.endian.specs.Bytes.{bytes32, whole32}
use Rattle.lengths.specs.Edge.{Edge, edge}
use Rattle.lists.specs.FirstFrom.{first_from}
use Rattle.lists.specs.Test.{unless}
use Rattle.marks.specs.Packed.{packed, marks_of}
use Rattle.admission.specs.Tests.{places_tested}
use Rattle.lengths.specs.declared.refusal.Refusal.{Refusal}
use Rattle.lengths.specs.declared.refusal.Refusal.TheVariants as why
use Rattle.pages.specs.PageLine.{line_bytes, length_read, mark_read, is_line}
use Rattle.pages.specs.Page.{is_page, first_place, page_lines, edge_at, joined}
use Rattle.pages.specs.declared.reading.PageRefused.{PageRefused}

-- line k of a text, from 0
unfoldable pub line_at : List ℕ → ℕ → List ℕ
line_at text k = take line_bytes (drop (line_bytes * k) text)

-- what is read from the first k lines
unfoldable pub lengths_read : List ℕ → ℕ → List ℕ
lengths_read text k = joined (λ i. length_read (line_at text i) ∷ []) k

unfoldable pub marks_read : List ℕ → ℕ → List ℕ
marks_read text k = joined (λ i. mark_read (line_at text i) ∷ []) k

-- line k is one of the edge at its place
abbrev pub is_edge_line : Edge → List ℕ → Bool
is_edge_line (edge a b) line = is_line a b line

unfoldable pub right_line : (n first : ℕ) → List ℕ → ℕ → Bool
right_line n first text k = is_edge_line (edge_at n (first + k)) (line_at text k)

-- the first wrong of so many lines, counted from 1, or one past the last
unfoldable pub wrong_line : (n first lines : ℕ) → List ℕ → ℕ
wrong_line n first lines text = suc (first_from (λ k. not (right_line n first text k)) 0 lines)

-- no line is wrong, and there is nothing behind the last
unfoldable pub is_page_text : (n p : ℕ) → List ℕ → Bool
is_page_text n p text =
    eqb (wrong_line n (first_place p) (page_lines n p) text) (suc (page_lines n p)) && eqb (length text) (line_bytes * page_lines n p)

-- a table and a packed set that pass 1, 2 and 6
pub record Passes (n : ℕ) (table set : List ℕ) : Type 0 where
  pub tests : places_tested n (length (whole32 table)) (marks_of n set) ≡ Ok n

-- and a page number that passes 26
pub record Tried (n p : ℕ) (table set : List ℕ) : Type 0 where
  pub passes : Passes n table set
  pub page : is_page n p ≡ true

-- a refusal and its line
abbrev pub page_refused : Refusal → (line : ℕ) → PageRefused
page_refused refusal line = record { refusal = refusal; line = line }

-- what reading a page answers
abbrev pub PageRead : Type 0
PageRead = Result (Unit {0}) PageRefused

abbrev pub is_read : PageRead
is_read = Ok tt

abbrev pub not_read : Refusal → (line : ℕ) → PageRead
not_read refusal line = Err (page_refused refusal line)

-- a refusal names line 0, but 27 its line
abbrev pub read_tested : Result ℕ Refusal → (p : ℕ) → List ℕ → PageRead
read_tested (Err refusal) p text = not_read refusal 0
read_tested (Ok n) p text =
    unless (is_page n p) (not_read why.Page 0)
    (unless (is_page_text n p text) (not_read why.PageText (wrong_line n (first_place p) (page_lines n p) text))
    is_read)

unfoldable pub read_answer : (n p : ℕ) → List ℕ → (size : ℕ) → (marks : List ℕ) → PageRead
read_answer n p text size marks = read_tested (places_tested n size marks) p text

-- a list with these elements from a place on, and all others as they were
unfoldable pub overlay : ℕ → (new old : List ℕ) → List ℕ
overlay at new old = take at old ++ (new ++ drop (at + length new) old)

-- the table and the marks that are left: "changes only its own edges there"
abbrev pub table_left : PageRead → (n p : ℕ) → (text table : List ℕ) → List ℕ
table_left (Ok done) n p text table = overlay (4 * first_place p) (bytes32 (lengths_read text (page_lines n p))) table
table_left (Err refused) n p text table = table

abbrev pub set_left : PageRead → (n p : ℕ) → (text set : List ℕ) → List ℕ
set_left (Ok done) n p text set = packed (overlay (first_place p) (marks_read text (page_lines n p)) (marks_of n set))
set_left (Err refused) n p text set = set

-- over bytes: the answer, and what is left
abbrev pub page_answer : (n p : ℕ) → (text table set : List ℕ) → PageRead
page_answer n p text table set = read_answer n p text (length (whole32 table)) (marks_of n set)

abbrev pub table_after : (n p : ℕ) → (text table set : List ℕ) → List ℕ
table_after n p text table set = table_left (page_answer n p text table set) n p text table

abbrev pub set_after : (n p : ℕ) → (text table set : List ℕ) → List ℕ
set_after n p text table set = set_left (page_answer n p text table set) n p text set

-- what `read_page` ensures: the answer, the table's bytes and the packed set that are left
pub record ReadAs (n p : ℕ) (text table set : List ℕ) (answer : PageRead) (table-out set_out : List ℕ) : Type 0 where
  pub answered : answer ≡ page_answer n p text table set
  pub table-left : table-out ≡ table_after n p text table set
  pub set-left : set_out ≡ set_after n p text table set
