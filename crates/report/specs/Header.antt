-- The program's input (01, "Layers and program"): rule and n, 2n coordinates, then records to the end; and the
-- tests of the file.
use Rattle.std.specs.Prelude.{ℕ, ◌+◌, ◌*◌, List, Result, Ok, Err, leb, length, take, drop, get_or}
use Rattle.lengths.specs.Instance.{in_range, most_points}
use Rattle.lists.specs.Test.{unless}
use Rattle.sheets.specs.Sheet.{most_numbers}
use Rattle.endian.specs.Bytes.{whole16, whole32}
use Rattle.lengths.specs.declared.refusal.Refusal.{Refusal}
use Rattle.lengths.specs.declared.refusal.Refusal.TheVariants as why
use Rattle.report.specs.declared.header.Header.{Header}

-- "rule and n (32 bits each), 2n coordinates (32 bits each, first all of point 1), then records to the end; at
-- most 65,448 bytes"
abbrev pub header_bytes : ℕ
header_bytes = 8

abbrev pub point_bytes : ℕ
point_bytes = 8

abbrev pub most_bytes : ℕ
most_bytes = header_bytes + point_bytes * most_points + 2 * most_numbers

-- the two 32-bit numbers that the first eight bytes are, "all little-endian"
unfoldable pub number_in : List ℕ → ℕ → ℕ
number_in file i = get_or (whole32 (take header_bytes file)) i 0

abbrev pub rule_in : List ℕ → ℕ
rule_in file = number_in file 0

abbrev pub points_in : List ℕ → ℕ
points_in file = number_in file 1

-- the 2n coordinates of 32 bits each
unfoldable pub coordinates_in : ℕ → List ℕ → List ℕ
coordinates_in n file = whole32 (take (point_bytes * n) (drop header_bytes file))

-- what follows them to the end, as numbers of 16 bits: none where it is no whole number of them
unfoldable pub records_in : ℕ → List ℕ → List ℕ
records_in n file = whole16 (drop (header_bytes + point_bytes * n) file)

-- the number of the rule, and of points
abbrev pub header : (rule points : ℕ) → Header
header rule points = record { rule = rule; points = points }

-- "A file under 8 bytes gets 7. Once n has passed test 1, a file that ends inside the coordinates or is longer than
-- 65,448 bytes gets 7"
unfoldable pub header_of : List ℕ → Result Header Refusal
header_of file =
    unless (leb header_bytes (length file)) (Err why.Sheet)
    (unless (in_range (points_in file)) (Err why.Points)
    (unless (leb (header_bytes + point_bytes * points_in file) (length file)) (Err why.Sheet)
    (unless (leb (length file) most_bytes) (Err why.Sheet)
    (Ok (header (rule_in file) (points_in file))))))
