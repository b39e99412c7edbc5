-- What functions ask of each other about the subject of `specs/Fresh.antt`, and what they ensure.
use Rattle.std.specs.Prelude.{ℕ, get_or, replicate}
use Rattle.marks.specs.Mark.{open_mark}
use Rattle.marks.specs.Packed.{byte_of}

-- the mark of the edge at place j where so many edges are left: open, or an unused quarter
abbrev pub open_of : (left j : ℕ) → ℕ
open_of left j = get_or (replicate left open_mark) j 0

-- the byte of open edges where so many are left
unfoldable pub open_byte : (left : ℕ) → ℕ
open_byte left = byte_of (open_of left 0) (open_of left 1) (open_of left 2) (open_of left 3)
