-- TSPLIB texts for C: bytes in, one 64-bit number out, and the table's bytes that are left.
use Rattle.std.specs.Prelude.{ℕ, ◌+◌, ◌*◌, ◌%◌, ◌^◌, ◌≡◌, List, Result, Ok, Err, length}
use Rattle.endian.specs.Bytes.{whole32}
use Rattle.tsplib.specs.Judging.{judged, lines_of}
use Rattle.tsplib.specs.Reading.{read_as, left_as, points_of}
use Rattle.lengths.specs.Refusal.{refusal_number}
use Rattle.tsplib.specs.declared.reading.TextRefused.{TextRefused}

-- the refusal number and 256 times its line, modulo 2^64, or 65,536 times the number of points
abbrev pub read_number : Result ℕ TextRefused → ℕ
read_number (Ok n) = 65536 * n
read_number (Err r) = refusal_number r.refusal + 256 * (r.line % 2 ^ 56)

-- what `revosti_read_tsplib` ensures: its answer, and the table's bytes that it leaves
pub record ReadInC (text table : List ℕ) (r : ℕ) (left : List ℕ) : Type 0 where
  pub answered : r ≡ read_number (read_as (judged text) (lines_of text) (length (whole32 table)))
  pub table-left : left ≡ left_as (judged text) (lines_of text) table

-- what `revosti_tsplib_points` answers
abbrev pub points_in_c : List ℕ → ℕ
points_in_c text = read_number (points_of (judged text))
