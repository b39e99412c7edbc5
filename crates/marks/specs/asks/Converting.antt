-- What functions ask of each other about the subject of `specs/Converting.antt`, and what they ensure.
use Rattle.std.specs.Prelude.{ℕ, ◌+◌, ◌*◌, ◌≤◌, ◌≡◌, List, length, get_or}
use Rattle.lists.specs.Test.{AtMost}
use Rattle.marks.specs.Mark.{pending_mark}
use Rattle.marks.specs.Packed.{packed_bytes, byte_of}

-- the mark that byte k of the packed set has in its quarter j
abbrev pub fourth : List ℕ → ℕ → ℕ → ℕ
fourth marks k j = get_or marks (4 * k + j) 0

-- byte k of the packed set
abbrev pub byte_at : List ℕ → ℕ → ℕ
byte_at marks k = byte_of (fourth marks k 0) (fourth marks k 1) (fourth marks k 2) (fourth marks k 3)

-- marks, and a byte that holds some of them
pub record ByteAsked (bytes : List ℕ) (k : ℕ) : Type 0 where
  pub marks : AtMost pending_mark bytes
  pub inside : 4 * k ≤ length bytes + 3

-- marks, and a set with room for all of them
pub record PackAsked (bytes set : List ℕ) : Type 0 where
  pub marks : AtMost pending_mark bytes
  pub room : length set ≡ packed_bytes (length bytes)
