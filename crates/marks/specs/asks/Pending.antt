-- What functions ask of each other about the subject of `specs/Pending.antt`, and what they ensure.
use Rattle.std.specs.Prelude.{ℕ, ◌≤◌, ◌≡◌}
use Rattle.marks.specs.Packed.{quarter, byte_of}
use Rattle.marks.specs.Pending.{resolved_mark}

-- a resolved mark, which has two bits again
pub record ResolvedQuarter (mark byte j r : ℕ) : Type 0 where
  pub resolved : r ≡ resolved_mark mark (quarter byte j)
  pub two_bits : r ≤ 3

-- a byte of four marks with `mark` in the place of each that is pending
unfoldable pub resolved_byte : (mark byte : ℕ) → ℕ
resolved_byte mark byte =
    byte_of (resolved_mark mark (quarter byte 0)) (resolved_mark mark (quarter byte 1))
    (resolved_mark mark (quarter byte 2)) (resolved_mark mark (quarter byte 3))
