-- Slips for C (02, Paper 13): one 64-bit number, the answer of marking, in which bit 40 is set once the slip is
-- released. Every number is a slip.
use Rattle.std.specs.Prelude.{ℕ, ◌+◌, ◌*◌, ◌/◌, ◌%◌, ◌≡◌, List, eqb, length}
use Rattle.receipts.specs.Receipt.{release, flag_of}
use Rattle.receipts.specs.View.{view_answer, view_left}
use Rattle.receipts.specs.declared.receipt.Receipt.{Receipt}
use Rattle.revosti.specs.Outcome.{outcome_number}

-- bit 40, and the bit above it
abbrev pub released_bit : ℕ
released_bit = 1099511627776

abbrev pub above_receipt : ℕ
above_receipt = 2199023255552

-- the refusal number in bits 0 to 7, the record in 8 to 23, the lines in 24 to 39, as in marking's answer, and released
-- in bit 40; bits 41 to 63 are ignored
abbrev pub receipt_in : ℕ → Receipt
receipt_in k = record { refusal = k % 256; rec = k / 256 % 65536; lines = k / 16777216 % 65536; released = eqb (k / released_bit % 2) 1 }

abbrev pub receipt_number : Receipt → ℕ
receipt_number s = s.refusal + 256 * s.rec + 16777216 * s.lines + released_bit * flag_of s.released

-- the number of the slip released, and the bits above it as they were
abbrev pub release_in_c : ℕ → ℕ
release_in_c k = receipt_number (release (receipt_in k)) + above_receipt * (k / above_receipt)

-- what `revosti_examiner_view` and `revosti_candidate_view` ensure of a view: the answer, and the bytes that are left
pub record ViewedInC (view bytes : List ℕ) (r : ℕ) (left : List ℕ) : Type 0 where
  pub answered : r ≡ outcome_number (view_answer (length bytes))
  pub bytes_left : left ≡ view_left (view_answer (length bytes)) view bytes
