-- Little-endian bytes (01, "Layers and program"): "a length that is no whole number of entries is a wrong size".
use Rattle.std.specs.Prelude.{ℕ, zero, suc, ◌+◌, ◌*◌, ◌/◌, ◌%◌, cond, List, [], ◌∷◌, ◌++◌, eqb, length}

unfoldable pub numbers16 : List ℕ → List ℕ
numbers16 [] = []
numbers16 (a ∷ []) = []
numbers16 (a ∷ b ∷ rest) = (a + 256 * b) ∷ numbers16 rest

unfoldable pub numbers32 : List ℕ → List ℕ
numbers32 [] = []
numbers32 (a ∷ []) = []
numbers32 (a ∷ b ∷ []) = []
numbers32 (a ∷ b ∷ c ∷ []) = []
numbers32 (a ∷ b ∷ c ∷ d ∷ rest) = (a + 256 * b + 65536 * c + 16777216 * d) ∷ numbers32 rest

-- the numbers that the bytes are, and none where their length is no whole number of entries
unfoldable pub whole16 : List ℕ → List ℕ
whole16 bytes = cond (eqb (length bytes % 2) 0) (numbers16 bytes) []

unfoldable pub whole32 : List ℕ → List ℕ
whole32 bytes = cond (eqb (length bytes % 4) 0) (numbers32 bytes) []

-- the bytes of a number, so many, the lowest first
unfoldable pub little_endian : ℕ → ℕ → List ℕ
little_endian zero x = []
little_endian (suc k) x = x % 256 ∷ little_endian k (x / 256)

-- the bytes of numbers, so many for each
unfoldable pub bytes_of : ℕ → List ℕ → List ℕ
bytes_of width [] = []
bytes_of width (x ∷ xs) = little_endian width x ++ bytes_of width xs

abbrev pub bytes16 : List ℕ → List ℕ
bytes16 = bytes_of 2

abbrev pub bytes32 : List ℕ → List ℕ
bytes32 = bytes_of 4
