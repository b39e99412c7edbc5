-- "Measure" for C: the refusal number or 0, and the table's bytes that are left.
use Rattle.std.specs.Prelude.{ℕ, ◌≡◌, List, length}
use Rattle.lengths.specs.Measure.{measured, table_after}
use Rattle.endian.specs.Bytes.{whole32}
use Rattle.revosti.specs.Outcome.{outcome_number}

-- what `revosti_measure` ensures of the coordinates that its bytes are: its answer, and the table's bytes that it
-- leaves; "a length that is no whole number of entries is a wrong size", as a table of no entries is
pub record MeasuredInC (n rule : ℕ) (cs table : List ℕ) (r : ℕ) (left : List ℕ) : Type 0 where
  pub answered : r ≡ outcome_number (measured n rule cs (length (whole32 table)))
  pub table-left : left ≡ table_after n rule cs table
