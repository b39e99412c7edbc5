-- How many numbers bytes are: what the trait of numbers asks of each of its types.
use Rattle.std.specs.Prelude.{ℕ, ◌+◌, ◌*◌, ◌/◌, ◌%◌, ◌<◌, ◌≡◌, refl, cond, List, [], ◌∷◌, eqb, length, true, false, Bool}
use native.Mathlib.Omega.{arith}
use Rattle.endian.specs.Bytes.{numbers16, numbers32, whole16, whole32}

pub numbers_count16 : (bytes : List ℕ) → length (numbers16 bytes) ≡ length bytes / 2
unfolding numbers16
numbers_count16 [] = refl
numbers_count16 (a ∷ []) = refl
numbers_count16 (a ∷ b ∷ rest) = omega (arith, numbers_count16 rest)

pub numbers_count32 : (bytes : List ℕ) → length (numbers32 bytes) ≡ length bytes / 4
unfolding numbers32
numbers_count32 [] = refl
numbers_count32 (a ∷ []) = refl
numbers_count32 (a ∷ b ∷ []) = refl
numbers_count32 (a ∷ b ∷ c ∷ []) = refl
numbers_count32 (a ∷ b ∷ c ∷ d ∷ rest) = omega (arith, numbers_count32 rest)

pub counted16 : (bytes : List ℕ) → length (whole16 bytes) ≡ cond (eqb (length bytes % 2) 0) (length bytes / 2) 0
unfolding whole16
counted16 bytes = go (eqb (length bytes % 2) 0)
  where
    go : (w : Bool) → length (cond w (numbers16 bytes) []) ≡ cond w (length bytes / 2) 0
    go true = numbers_count16 bytes
    go false = refl

pub counted32 : (bytes : List ℕ) → length (whole32 bytes) ≡ cond (eqb (length bytes % 4) 0) (length bytes / 4) 0
unfolding whole32
counted32 bytes = go (eqb (length bytes % 4) 0)
  where
    go : (w : Bool) → length (cond w (numbers32 bytes) []) ≡ cond w (length bytes / 4) 0
    go true = numbers_count32 bytes
    go false = refl
