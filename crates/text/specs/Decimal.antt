-- Numbers in ASCII: "printed numbers are decimal" (01).
use Rattle.std.specs.Prelude.{ℕ, zero, suc, ◌+◌, ◌-◌, ◌*◌, ◌/◌, ◌%◌, ◌≤◌, ◌<◌, ◌≡◌, true, false, List, [], ◌∷◌, ◌++◌, ltb, length, get_or}

-- the digits of n, at most k of them: those of n / 10, then the last one
unfoldable pub digits : ℕ → ℕ → List ℕ
digits zero n = []
digits (suc k) n = elim (ltb n 10) [ true ↦ (48 + n) ∷ [] | false ↦ digits k (n / 10) ++ ((48 + n % 10) ∷ []) ]

-- the digits of n: n + 1 places are enough for all of them
unfoldable pub decimal : ℕ → List ℕ
decimal n = digits (suc n) n

-- the number that a text of digits is, after the number that stands before it
unfoldable pub value_from : ℕ → List ℕ → ℕ
value_from before [] = before
value_from before (d ∷ ds) = value_from (10 * before + (d - 48)) ds

-- the text is n in decimal: digits whose value is n, with no 0 in front unless n is 0
pub record IsDecimal (n : ℕ) (text : List ℕ) : Type 0 where
  pub value : value_from 0 text ≡ n
  pub digit : (i : ℕ) → i < length text → (48 ≤ get_or text i 0) × (get_or text i 0 < 58)
  pub some : 1 ≤ length text
  pub front : 1 ≤ n → 48 < get_or text 0 0
  pub none : n ≡ 0 → text ≡ 48 ∷ []

-- a word and a number
unfoldable pub field_text : List ℕ → ℕ → List ℕ
field_text word n = word ++ decimal n
