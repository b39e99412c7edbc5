-- "Check a tour" for C: bytes in, one 64-bit number out.
use Rattle.std.specs.Prelude.{ℕ, ◌+◌, ◌*◌, Bool, true, false, List, Result, Ok, Err}
use Rattle.endian.specs.Bytes.{whole16, whole32}
use Rattle.marks.specs.Packed.{marks_of}
use Rattle.tour_check.specs.Tour.{tour_checked}
use Rattle.lengths.specs.Refusal.{refusal_number}
use Rattle.lengths.specs.declared.refusal.Refused.{Refused}
use Rattle.tour_check.specs.declared.tour.CheckedTour.{CheckedTour}

-- the refusal number alone, or 65,536 times the length, plus 256 if all edges are open
abbrev pub open_number : Bool → ℕ
open_number true = 256
open_number false = 0

abbrev pub checked_number : Result CheckedTour Refused → ℕ
checked_number (Err r) = refusal_number r.refusal
checked_number (Ok told) = 65536 * told.length + open_number told.«open»

abbrev pub tour_in_c : ℕ → List ℕ → List ℕ → List ℕ → ℕ
tour_in_c n table set t = checked_number (tour_checked n (whole32 table) (marks_of n set) (whole16 t))
