-- Numbers in columns (02, Paper 12): "right-aligned without leading zeros", blanks elsewhere.
use Rattle.std.specs.Prelude.{ℕ, ◌-◌, List, ◌++◌, length}
use Rattle.text.specs.Decimal.{decimal}
use Rattle.text.specs.Words.{blanks}

-- n in so many columns, right-aligned
unfoldable pub padded : (width n : ℕ) → List ℕ
padded width n = blanks (width - length (decimal n)) ++ decimal n
