-- Numbers parted by blanks: "Numbers are digits only, fit 32 bits and are parted by blanks".
use Rattle.std.specs.Prelude.{ℕ, ◌+◌, ◌-◌, ◌*◌, ◌^◌, ◌≤◌, ◌<◌, max, ◌≡◌, Bool, true, false, cond, ◌&&◌, List, [], ◌∷◌, ◌++◌, eqb, leb, ltb, length}
use Rattle.std.specs.Prelude.{Option, Some, None}
use Rattle.text.specs.Decimal.{value_from}
use Rattle.text.specs.Words.{blank, blanks}
use Rattle.tsplib_lines.specs.declared.numbers.Tally.{Tally}
use Rattle.tsplib_lines.specs.declared.numbers.Sweep.{Sweep}

-- numbers have 32 bits
abbrev pub number_limit : ℕ
number_limit = 2 ^ 32

-- digits alone
pub data Digits : List ℕ → Type 0 where
  end : Digits []
  digit : {d : ℕ} {t : List ℕ} → d < 10 → Digits t → Digits ((48 + d) ∷ t)

-- the text is the number n: one digit or more, zeros in front at will, whose value is n, and n fits 32 bits
pub record Number (text : List ℕ) (n : ℕ) : Type 0 where
  pub some : 1 ≤ length text
  pub digits : Digits text
  pub value : value_from 0 text ≡ n
  pub fits : n < number_limit

-- the text is the numbers, one or more, parted by blanks, with blanks around them at will
pub data NumberText : List ℕ → List ℕ → Type 0 where
  padded : {t xs : List ℕ} → NumberText t xs → NumberText (blank ∷ t) xs
  last : {d : List ℕ} {n : ℕ} → Number d n → (k : ℕ) → NumberText (d ++ blanks k) (n ∷ [])
  more : {d t xs : List ℕ} {n : ℕ} → Number d n → NumberText t xs → NumberText (d ++ blank ∷ t) (n ∷ xs)

-- the numbers of a text byte by byte, from between two numbers (None) or from within one, with its value so far; none
-- where the text is no numbers
abbrev pub with_number : ℕ → Option (List ℕ) → Option (List ℕ)
with_number n None = None
with_number n (Some xs) = Some (n ∷ xs)

abbrev pub at_blank : Option ℕ → (Option ℕ → Option (List ℕ)) → Option (List ℕ)
at_blank None rest = rest None
at_blank (Some v) rest = with_number v (rest None)

abbrev pub at_digit : ℕ → Option ℕ → (Option ℕ → Option (List ℕ)) → Option (List ℕ)
at_digit d None rest = rest (Some d)
at_digit d (Some v) rest = elim (ltb (10 * v + d) number_limit) [ true ↦ rest (Some (10 * v + d)) | false ↦ None ]

abbrev pub is_digit : ℕ → Bool
is_digit b = leb 48 b && leb b 57

unfoldable pub numbers_from : Option ℕ → List ℕ → Option (List ℕ)
numbers_from None [] = Some []
numbers_from (Some v) [] = Some (v ∷ [])
numbers_from p (b ∷ t) =
    elim (eqb b blank) [
      | true ↦ at_blank p (λ (q : Option ℕ). numbers_from q t)
      | false ↦ elim (is_digit b) [ true ↦ at_digit (b - 48) p (λ (q : Option ℕ). numbers_from q t) | false ↦ None ]
    ]

unfoldable pub numbers_in : List ℕ → Option (List ℕ)
numbers_in text = numbers_from None text

-- what the judge of lines wants to know of numbers: how many, the first and the largest
abbrev pub counted : Tally → ℕ → Tally
counted t n = record { count = t.count + 1; first = cond (eqb t.count 0) n t.first; maximum = max t.maximum n }

unfoldable pub counted_all : Tally → List ℕ → Tally
counted_all t [] = t
counted_all t (n ∷ ns) = counted_all (counted t n) ns

abbrev pub no_tally : Tally
no_tally = record { count = 0; first = 0; maximum = 0 }

unfoldable pub total_of : Tally → Option Tally
total_of t = cond (eqb t.count 0) None (Some t)

unfoldable pub tallied_of : Tally → Option (List ℕ) → Option Tally
tallied_of t None = None
tallied_of t (Some xs) = total_of (counted_all t xs)

-- no byte yet
abbrev pub no_sweep : Sweep
no_sweep = record { begun = None; tally = no_tally }

-- one byte, and the end of the text
abbrev pub ended : Option ℕ → Tally → Tally
ended None t = t
ended (Some v) t = counted t v

abbrev pub swept_blank : Sweep → Sweep
swept_blank s = record { begun = None; tally = ended s.begun s.tally }

abbrev pub swept_digit : ℕ → Option ℕ → Tally → Option Sweep
swept_digit d None t = Some (record { begun = Some d; tally = t })
swept_digit d (Some v) t =
    elim (ltb (10 * v + d) number_limit) [ true ↦ Some (record { begun = Some (10 * v + d); tally = t }) | false ↦ None ]

abbrev pub swept_byte : ℕ → Sweep → Option Sweep
swept_byte b s =
    elim (eqb b blank) [
      | true ↦ Some (swept_blank s)
      | false ↦ elim (is_digit b) [ true ↦ swept_digit (b - 48) s.begun s.tally | false ↦ None ]
    ]
