-- Edge pages for C: the answer as one 64-bit number, and the buffers that are left.
use Rattle.std.specs.Prelude.{ℕ, ◌+◌, ◌*◌, ◌≡◌, List, Ok, Err, length}
use Rattle.pages.specs.Page.{page_text}
use Rattle.pages.specs.Reading.{PageRead, page_answer, table_after, set_after}
use Rattle.pages.specs.Writing.{write_answer, write_left}
use Rattle.lengths.specs.Refusal.{refusal_number}
use Rattle.revosti.specs.Outcome.{counted_number}

-- the refusal number or 0, plus 256 times the line, which only 27 has
abbrev pub page_read_number : PageRead → ℕ
page_read_number (Ok done) = 0
page_read_number (Err r) = refusal_number r.refusal + 256 * r.line

-- what `revosti_write_page` ensures of the lengths that the table's bytes are and of the marks that the packed set
-- holds: its answer, and the text that it leaves
pub record WrittenInC (n : ℕ) (lengths marks : List ℕ) (p : ℕ) (text : List ℕ) (r : ℕ) (left : List ℕ) : Type 0 where
  pub answered : r ≡ counted_number (write_answer n lengths marks p (length text))
  pub text_left : left ≡ write_left (write_answer n lengths marks p (length text)) (page_text n p lengths marks) text

-- what `revosti_read_page` ensures: its answer, the table's bytes and the packed set that it leaves
pub record PageReadInC (n p : ℕ) (text table set : List ℕ) (r : ℕ) (table-out set_out : List ℕ) : Type 0 where
  pub answered : r ≡ page_read_number (page_answer n p text table set)
  pub table-left : table-out ≡ table_after n p text table set
  pub set-left : set_out ≡ set_after n p text table set
