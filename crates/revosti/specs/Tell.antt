-- "Tell a line" for C: the answer as one 64-bit number, and the text that is left.
use Rattle.std.specs.Prelude.{ℕ, ◌+◌, ◌*◌, ◌≡◌, List, length}
use Rattle.argument.specs.Verdict.{accepted, refused}
use Rattle.reasons.specs.Telling.{Telling, line_text, tell_answer, tell_left}

-- the refusal number plus 256 times its record, or 65,536 times the text's length
abbrev pub telling_number : Telling → ℕ
telling_number (refused number rec) = number + 256 * rec
telling_number (accepted size) = 65536 * size

-- what `revosti_tell_line` ensures of the lengths that the table's bytes are, of the marks that the packed set holds
-- and of the sheet's numbers: its answer, and the text that it leaves
pub record ToldInC (n : ℕ) (table marks s : List ℕ) (i : ℕ) (buffer : List ℕ) (r : ℕ) (left : List ℕ) : Type 0 where
  pub answered : r ≡ telling_number (tell_answer n table marks s i (length buffer))
  pub text_left : left ≡ tell_left (tell_answer n table marks s i (length buffer)) (line_text n table marks s i) buffer
