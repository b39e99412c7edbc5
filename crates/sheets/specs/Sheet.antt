-- Sheets, certificates of edge eliminations (01, "The sheet"): their limits, and test 7.
use Rattle.std.specs.Prelude.{ℕ, ◌*◌, ◌%◌, Bool, not, ◌&&◌, leb, eqb}
pub use Rattle.argument.specs.Record.{record_size, Readable}

-- "A sheet has 1 to 4,000 records numbered from 1, each of eight 16-bit numbers"
abbrev pub most_records : ℕ
most_records = 4000

abbrev pub most_numbers : ℕ
most_numbers = most_records * record_size

-- test 7: so many numbers are whole records, within the limits
unfoldable pub whole_sheet : ℕ → Bool
whole_sheet numbers = not (eqb numbers 0) && (eqb (numbers % record_size) 0 && leb numbers most_numbers)
