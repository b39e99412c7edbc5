-- Reading the pages of an instance, one after the other (02, Paper 12): "Reading all pages of an instance yields its
-- lengths and marks again".
use Rattle.std.specs.Prelude.{ℕ, zero, suc, List}
use Rattle.pages.specs.Page.{page_text}
use Rattle.pages.specs.Reading.{table_after, set_after}

-- a table's bytes and a packed set
pub record PageBuffers : Type 0 where
  pub table : List ℕ
  pub set : List ℕ

-- what reading a text as page p leaves
unfoldable pub read_into : (n p : ℕ) → (text : List ℕ) → PageBuffers → PageBuffers
read_into n p text b = record { table = table_after n p text b.table b.set; set = set_after n p text b.table b.set }

-- pages 1 to k of these lengths and marks, read one after the other
unfoldable pub read_pages : (n : ℕ) → (lengths marks : List ℕ) → (k : ℕ) → PageBuffers → PageBuffers
read_pages n lengths marks zero b = b
read_pages n lengths marks (suc k) b = read_into n (suc k) (page_text n (suc k) lengths marks) (read_pages n lengths marks k b)
