-- "Mark a sheet" and "ask a sheet" for C: bytes in, one 64-bit number out, and the packed set that is left.
use Rattle.std.specs.Prelude.{ℕ, ◌+◌, ◌*◌, ◌≡◌, List}
use Rattle.argument.specs.Verdict.{Verdict, accepted, refused}
use Rattle.argument.specs.Sheet.{Result}
use Rattle.endian.specs.Bytes.{whole16, whole32}
use Rattle.marking.specs.Mark.{mark_packed_by}

-- the refusal number or 0, plus 256 times the record
abbrev pub verdict_number : Verdict (Unit {0}) → ℕ
verdict_number (accepted u) = 0
verdict_number (refused number rec) = number + 256 * rec

-- plus 16,777,216 times the lines accepted
abbrev pub result_number : Result (List ℕ) → ℕ
result_number r = verdict_number r.verdict + 16777216 * r.lines

-- what marking and asking answer and leave over bytes, where an accepted line writes the mark `mark`
abbrev pub mark_in_c : (mark : ℕ) → ℕ → List ℕ → List ℕ → List ℕ → Result (List ℕ)
mark_in_c mark n table set s = mark_packed_by mark n (whole32 table) set (whole16 s)

-- what `revosti_mark_sheet` (with struck) and `revosti_ask_sheet` (with pending) ensure: the answer, and the packed set
-- that is left
pub record MarkedInC (mark n : ℕ) (table set s : List ℕ) (r : ℕ) (left : List ℕ) : Type 0 where
  pub answered : r ≡ result_number (mark_in_c mark n table set s)
  pub set-left : left ≡ (mark_in_c mark n table set s).marks
