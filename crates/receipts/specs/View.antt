-- The views of a slip (02, Paper 13), six bytes each, and writing one to the front of a buffer: 22, the buffer is too
-- short.
use Rattle.std.specs.Prelude.{ℕ, ◌≡◌, false, cond, List, ◌∷◌, ◌++◌, Result, Ok, Err, leb, length, drop}
use Rattle.endian.specs.Bytes.{little_endian}
use Rattle.lists.specs.Test.{unless}
use Rattle.receipts.specs.Receipt.{stopped?, flag_of}
use Rattle.receipts.specs.declared.receipt.Receipt.{Receipt}
use Rattle.lengths.specs.Refusal.{refuse}
use Rattle.lengths.specs.declared.refusal.Refusal.TheVariants.{Buffer}
use Rattle.lengths.specs.declared.refusal.Refused.{Refused}

-- "The examiner sees all of it in six little-endian bytes: refusal number, released 0 or 1, then record and lines, two
-- each"
unfoldable pub examiner_view : Receipt → List ℕ
examiner_view s = s.refusal ∷ flag_of s.released ∷ (little_endian 2 s.rec ++ little_endian 2 s.lines)

-- "Until release the candidate sees the lines and whether the sheet stopped: the first byte is 0 or 255, the record 0"
abbrev pub hidden : Receipt → Receipt
hidden s = record { refusal = cond (stopped? s) 255 0; rec = 0; lines = s.lines; released = false }

-- "After release the candidate sees the examiner's bytes"
abbrev pub shown : Receipt → Receipt
shown s = cond s.released s (hidden s)

abbrev pub candidate_view : Receipt → List ℕ
candidate_view s = examiner_view (shown s)

abbrev pub view_bytes : ℕ
view_bytes = 6

-- the answer over a buffer of so many bytes, and the buffer that is left: the view, and the bytes past it as they were
abbrev pub view_answer : ℕ → Result (Unit {0}) Refused
view_answer size = unless (leb view_bytes size) (refuse Buffer) (Ok tt)

abbrev pub view_left : Result (Unit {0}) Refused → List ℕ → List ℕ → List ℕ
view_left (Ok u) view bytes = view ++ drop view_bytes bytes
view_left (Err r) view bytes = bytes

-- what the functions ensure of a view: the answer, and the bytes that are left
pub record ViewedAs (view bytes : List ℕ) (answer : Result (Unit {0}) Refused) (left : List ℕ) : Type 0 where
  pub answered : answer ≡ view_answer (length bytes)
  pub bytes_left : left ≡ view_left (view_answer (length bytes)) view bytes
