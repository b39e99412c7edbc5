-- The numbers for C of what more than one operation answers (01, "For C").
use Rattle.std.specs.Prelude.{ℕ, ◌*◌, Result, Ok, Err}
use Rattle.lengths.specs.Refusal.{refusal_number}
use Rattle.lengths.specs.declared.refusal.Refused.{Refused}

-- of an operation that writes or is refused: the refusal number, or 0
abbrev pub outcome_number : Result Unit Refused → ℕ
outcome_number (Ok done) = 0
outcome_number (Err r) = refusal_number r.refusal

-- of an operation that counts what it writes, pairs or bytes: the refusal number alone, or 65,536 times the count
abbrev pub counted_number : Result ℕ Refused → ℕ
counted_number (Ok count) = 65536 * count
counted_number (Err r) = refusal_number r.refusal
