-- What a page is, without a reader: the text of some lengths within the limit and some marks. And the first line
-- that is no page's.
use Rattle.std.specs.Prelude.{ℕ, ◌-◌, ◌*◌, ◌≤◌, ◌≡◌, List, length, take}
use Rattle.lengths.specs.Table.{Lengths}
use Rattle.marks.specs.Packed.{ByteSet}
use Rattle.pages.specs.PageLine.{line_bytes}
use Rattle.pages.specs.Page.{page_text}

-- lengths within the limit and marks, of n points
pub record Printable (n : ℕ) (lengths marks : List ℕ) : Type 0 where
  pub within : Lengths n lengths
  pub marked : ByteSet n marks

-- "only pages so laid out, with lengths within 01's limit, are read"
pub record PageOf (n p : ℕ) (text : List ℕ) : Type 0 where
  pub lengths : List ℕ
  pub marks : List ℕ
  pub instance : Printable n lengths marks
  pub laid_out : text ≡ page_text n p lengths marks

-- the text has k whole lines, and some page begins with them: a page's lines have 25 bytes each
pub record BeginsPage (n p : ℕ) (text : List ℕ) (k : ℕ) : Type 0 where
  pub page : List ℕ
  pub is-page : PageOf n p page
  pub whole : line_bytes * k ≤ length text
  pub begun : take (line_bytes * k) text ≡ take (line_bytes * k) page

-- "its first wrong, missing or surplus line": some page begins with the lines before it, and none with it too, or it is
-- not there as a whole
pub record FirstWrong (n p : ℕ) (text : List ℕ) (line : ℕ) : Type 0 where
  pub some : 1 ≤ line
  pub right : BeginsPage n p text (line - 1)
  pub wrong : BeginsPage n p text line → ⊥

-- "a text to be read that is not such a page, with its first wrong, missing or surplus line"
pub record WrongPage (n p : ℕ) (text : List ℕ) (line : ℕ) : Type 0 where
  pub no_page : PageOf n p text → ⊥
  pub first : FirstWrong n p text line
