-- The operation "write a page" (02, Paper 12): 1, 2, 5, 6, 26; 22, the buffer is too short, last.
use Rattle.std.specs.Prelude.{ℕ, ◌≡◌, List, ◌++◌, Result, Ok, Err, leb, length, drop}
use Rattle.lists.specs.Test.{unless}
use Rattle.admission.specs.Tests.{tested}
use Rattle.lengths.specs.Refusal.{refuse}
use Rattle.lengths.specs.declared.refusal.Refusal.{Refusal}
use Rattle.lengths.specs.declared.refusal.Refusal.TheVariants as why
use Rattle.lengths.specs.declared.refusal.Refused.{Refused}
use Rattle.pages.specs.Page.{is_page, page_text}

-- what writing a page answers: the text's length, or a refusal with its record
abbrev pub Written : Type 0
Written = Result ℕ Refused

-- the answer over a buffer of so many bytes: a refusal names record 0
abbrev pub write_tested : Result ℕ Refusal → (lengths marks : List ℕ) → (p size : ℕ) → Written
write_tested (Err refusal) lengths marks p size = refuse refusal
write_tested (Ok n) lengths marks p size =
    unless (is_page n p) (refuse why.Page)
    (unless (leb (length (page_text n p lengths marks)) size) (refuse why.Buffer)
    (Ok (length (page_text n p lengths marks))))

unfoldable pub write_answer : ℕ → (lengths marks : List ℕ) → (p size : ℕ) → Written
write_answer n lengths marks p size = write_tested (tested n lengths marks) lengths marks p size

-- the buffer that is left: the page, and the bytes past it as they were
abbrev pub write_left : Written → (page text : List ℕ) → List ℕ
write_left (Ok size) page text = page ++ drop (length page) text
write_left (Err refused) page text = text

-- what `write_page` ensures of the lengths that the table's bytes are and of the marks that the packed set holds
pub record WrittenAs (n : ℕ) (lengths marks : List ℕ) (p : ℕ) (text : List ℕ) (answer : Written) (left : List ℕ) : Type 0 where
  pub answered : answer ≡ write_answer n lengths marks p (length text)
  pub text_left : left ≡ write_left (write_answer n lengths marks p (length text)) (page_text n p lengths marks) text
