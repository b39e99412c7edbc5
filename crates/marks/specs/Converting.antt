-- The operations "pack marks" and "unpack marks" (02, Paper 4): "Converting tests 1, then 6 (of the set written,
-- only the size)."
use Rattle.std.specs.Prelude.{ℕ, ◌≡◌, Bool, ◌&&◌, List, Result, Ok, Err, eqb, length}
use Rattle.lengths.specs.Edge.{edge_count}
use Rattle.lengths.specs.Instance.{in_range}
use Rattle.lists.specs.Test.{unless}
use Rattle.marks.specs.Mark.{are_marks}
use Rattle.marks.specs.Packed.{packed_size, packed, well_packed, marks_of}
use Rattle.lengths.specs.Refusal.{refuse}
use Rattle.lengths.specs.declared.refusal.Refusal.TheVariants.{Points, Marks}
use Rattle.lengths.specs.declared.refusal.Refused.{Refused}

-- 6 of a byte set: its size, and no byte above 2
unfoldable pub is_byte_set : ℕ → List ℕ → Bool
is_byte_set n bytes = eqb (length bytes) (edge_count n) && are_marks bytes

-- the answer, by test 6 of the set that is read, and by the size of the set that is written and the one
-- that it is to have
abbrev pub converted : ℕ → Bool → (size right : ℕ) → Result Unit Refused
converted n read size right = unless (in_range n) (refuse Points) (unless read (refuse Marks) (unless (eqb size right) (refuse Marks) (Ok tt)))

-- packing a byte set into a set of so many bytes
unfoldable pub pack_answer : ℕ → List ℕ → ℕ → Result Unit Refused
pack_answer n bytes size = converted n (is_byte_set n bytes) size (packed_size n)

abbrev pub pack_left : Result Unit Refused → List ℕ → List ℕ → List ℕ
pack_left (Ok _) bytes set = packed bytes
pack_left (Err refused) bytes set = set

-- unpacking a set into so many bytes
unfoldable pub unpack_answer : ℕ → List ℕ → ℕ → Result Unit Refused
unpack_answer n set size = converted n (well_packed n set) size (edge_count n)

abbrev pub unpack_left : Result Unit Refused → ℕ → List ℕ → List ℕ → List ℕ
unpack_left (Ok _) n set bytes = marks_of n set
unpack_left (Err refused) n set bytes = bytes

-- what `pack_marks` ensures: its answer, and the packed set that it leaves
pub record PackedAs (n : ℕ) (bytes set : List ℕ) (answer : Result Unit Refused) (left : List ℕ) : Type 0 where
  pub answered : answer ≡ pack_answer n bytes (length set)
  pub set-left : left ≡ pack_left (pack_answer n bytes (length set)) bytes set

-- what `unpack_marks` ensures: its answer, and the byte set that it leaves
pub record UnpackedAs (n : ℕ) (set bytes : List ℕ) (answer : Result Unit Refused) (left : List ℕ) : Type 0 where
  pub answered : answer ≡ unpack_answer n set (length bytes)
  pub bytes_left : left ≡ unpack_left (unpack_answer n set (length bytes)) n set bytes
