-- Slips (02, Paper 13): "A slip keeps a marked sheet's refusal number or 0, record, number of accepted lines and
-- whether it is released".
use Rattle.std.specs.Prelude.{ℕ, ◌<◌, Bool, true, false, not, cond, List, eqb}
use Rattle.argument.specs.Verdict.{Verdict, accepted, refused}
use Rattle.argument.specs.Sheet.{Result}
use Rattle.receipts.specs.declared.receipt.Receipt.{Receipt}

-- of a verdict and the lines accepted; "a new one is not" released
abbrev pub new_receipt : Verdict (Unit {0}) → (lines : ℕ) → Receipt
new_receipt (accepted u) lines = record { refusal = 0; rec = 0; lines = lines; released = false }
new_receipt (refused number at) lines = record { refusal = number; rec = at; lines = lines; released = false }

-- the slip of what a marked sheet answers
abbrev pub receipt_of : Result (List ℕ) → Receipt
receipt_of r = new_receipt r.verdict r.lines

-- "releasing changes nothing else"
abbrev pub release : Receipt → Receipt
release s = record { refusal = s.refusal; rec = s.rec; lines = s.lines; released = true }

-- the sheet stopped: there is a refusal
abbrev pub stopped? : Receipt → Bool
stopped? s = not (eqb s.refusal 0)

-- released, as a number: 0 or 1
abbrev pub flag_of : Bool → ℕ
flag_of b = cond b 1 0

-- the values have 8 and 16 bits, as in the code they always have
pub record Fits (s : Receipt) : Type 0 where
  pub refusal_fits : s.refusal < 256
  pub rec_fits : s.rec < 65536
  pub lines_fit : s.lines < 65536
