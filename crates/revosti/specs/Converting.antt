-- "Pack marks" and "unpack marks" for C: the refusal number or 0, and the set that is left.
use Rattle.std.specs.Prelude.{ℕ, ◌≡◌, List, length}
use Rattle.marks.specs.Converting.{pack_answer, pack_left, unpack_answer, unpack_left}
use Rattle.revosti.specs.Outcome.{outcome_number}

-- what `revosti_pack_marks` ensures: its answer, and the packed set that it leaves
pub record PackedInC (n : ℕ) (bytes set : List ℕ) (r : ℕ) (left : List ℕ) : Type 0 where
  pub answered : r ≡ outcome_number (pack_answer n bytes (length set))
  pub set-left : left ≡ pack_left (pack_answer n bytes (length set)) bytes set

-- what `revosti_unpack_marks` ensures: its answer, and the byte set that it leaves
pub record UnpackedInC (n : ℕ) (set bytes : List ℕ) (r : ℕ) (left : List ℕ) : Type 0 where
  pub answered : r ≡ outcome_number (unpack_answer n set (length bytes))
  pub bytes_left : left ≡ unpack_left (unpack_answer n set (length bytes)) n set bytes
