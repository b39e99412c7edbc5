-- "How much is saved" for C: one signed 64-bit number.
use Rattle.std.specs.Prelude.{Result, Ok, Err, ℤ, pos, ◌*ℤ◌}
use Rattle.lengths.specs.Refusal.{refusal_number}
use Rattle.lengths.specs.declared.refusal.Refused.{Refused}

-- the refusal number alone, or 65,536 times the saving
abbrev pub saved_number : Result ℤ Refused → ℤ
saved_number (Err r) = pos (refusal_number r.refusal)
saved_number (Ok s) = pos 65536 *ℤ s
