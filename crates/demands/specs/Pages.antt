-- Pages written by one function for C and read by the other (02, Paper 12): "Reading all pages of an instance yields
-- its lengths and marks again".
use Rattle.std.specs.Prelude.{ℕ, zero, suc, ◌/◌, ◌≤◌, ◌≡◌, List, take}
use Rattle.endian.specs.Bytes.{whole32}
use Rattle.marks.specs.Packed.{marks_of}
use Rattle.pages.specs.AllPages.{PageBuffers}
use Rattle.pages.specs.Page.{first_place, part_of}
use Rattle.pages.specs.Reading.{overlay}
use Rattle.revosti.specs.Page.{WrittenInC, PageReadInC}

-- page p of one board, copied to another: `revosti_write_page` writes it to a text, whatever is lent, and does not
-- refuse it; of what is left there `revosti_read_page` is given as many bytes as the answer says
pub record Copied (n p : ℕ) (from into out : PageBuffers) : Type 0 where
  pub lent : List ℕ
  pub left : List ℕ
  pub written : ℕ
  pub read : ℕ
  pub writes : WrittenInC n (whole32 from.table) (marks_of n from.set) p lent written left
  pub not_refused : 65536 ≤ written
  pub reads : PageReadInC n p (take (written / 65536) left) into.table into.set read out.table out.set

-- pages 1 to k, copied one after the other
pub data CopiedTo (n : ℕ) (from into : PageBuffers) : ℕ → PageBuffers → Type 0 where
  none : CopiedTo n from into zero into
  next : {k : ℕ} {mid out : PageBuffers} → CopiedTo n from into k mid → Copied n (suc k) from mid out → CopiedTo n from into (suc k) out

-- the page is read, and exactly its edges are set to what was written
pub record PageCopied (n p : ℕ) (from into out : PageBuffers) (answer : ℕ) : Type 0 where
  pub accepted : answer ≡ 0
  pub lengths : whole32 out.table ≡ overlay (first_place p) (part_of n p (whole32 from.table)) (whole32 into.table)
  pub marks : marks_of n out.set ≡ overlay (first_place p) (part_of n p (marks_of n from.set)) (marks_of n into.set)
