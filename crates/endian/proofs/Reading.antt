-- Entries of little-endian bytes: how many there are, and that each is made of its own bytes. Assumes nothing.
use Prim.Native.Nat.{ℕ, zero, suc, ◌+◌, ◌*◌, ◌/◌, ◌%◌, ◌<◌}
use mathlib.Core.Path.{◌≡◌, refl, sym, ◌∙◌, ap, ap₂}
use mathlib.Core.Bool.{Bool, true, false}
use mathlib.Core.List.{List, [], ◌∷◌}
use native.Mathlib.Omega.{arith}
use lib.Dec.{eqb}
use lib.ListN.{length, get_or, drop}
use lib.Seq.{drop-cons}
use borrow.Author.Tests.{eq-eqb, ne_eqb, eqb-true}
use Rattle.endian.specs.Bytes.{numbers16, numbers32, whole16, whole32}
use Rattle.endian.specs.Counted.{numbers_count16, numbers_count32}

-- what is left at j: the byte there, and what is left at the next place
pub drop_next : (xs : List ℕ) (j k : ℕ) → k ≡ suc j → j < length xs → drop j xs ≡ get_or xs j 0 ∷ drop k xs
drop_next xs j k e h = rw e (drop-cons xs j 0 h)

module _ (bytes : List ℕ) where
  pub whole_count16 : length bytes % 2 ≡ 0 → length bytes / 2 ≡ length (whole16 bytes)
  unfolding whole16
  whole_count16 h = rw (eq-eqb (length bytes % 2) 0 h) (sym (numbers_count16 bytes))

  pub whole_count32 : length bytes % 4 ≡ 0 → length bytes / 4 ≡ length (whole32 bytes)
  unfolding whole32
  whole_count32 h = rw (eq-eqb (length bytes % 4) 0 h) (sym (numbers_count32 bytes))

-- where there are entries, the bytes are theirs, and no other
record Whole (width : ℕ) (numbers whole : List ℕ → List ℕ) (bytes : List ℕ) : Type 0 where
  pub size : length bytes ≡ width * length (whole bytes)
  pub all : whole bytes ≡ numbers bytes

whole_of16 : (bytes : List ℕ) → 0 < length (whole16 bytes) → Whole 2 numbers16 whole16 bytes
unfolding whole16
whole_of16 bytes = go (eqb (length bytes % 2) 0) refl
  where
    go : (w : Bool) → eqb (length bytes % 2) 0 ≡ w → 0 < length (whole16 bytes) → Whole 2 numbers16 whole16 bytes
    go true e h = record { size = rw e (omega (arith, numbers_count16 bytes, eqb-true (length bytes % 2) 0 e)); all = rw e }
    go false e h = absurd (let none : 0 < 0 = rw e at h in omega arith)

whole_of32 : (bytes : List ℕ) → 0 < length (whole32 bytes) → Whole 4 numbers32 whole32 bytes
unfolding whole32
whole_of32 bytes = go (eqb (length bytes % 4) 0) refl
  where
    go : (w : Bool) → eqb (length bytes % 4) 0 ≡ w → 0 < length (whole32 bytes) → Whole 4 numbers32 whole32 bytes
    go true e h = record { size = rw e (omega (arith, numbers_count32 bytes, eqb-true (length bytes % 4) 0 e)); all = rw e }
    go false e h = absurd (let none : 0 < 0 = rw e at h in omega arith)

pub size16 : (bytes : List ℕ) → 0 < length (whole16 bytes) → length bytes ≡ 2 * length (whole16 bytes)
size16 bytes h = (whole_of16 bytes h).size

pub size32 : (bytes : List ℕ) → 0 < length (whole32 bytes) → length bytes ≡ 4 * length (whole32 bytes)
size32 bytes h = (whole_of32 bytes h).size

-- an entry's bytes
pub bytes_of16 : (bytes : List ℕ) (i : ℕ) → 2 * i + 1 < length bytes → get_or (numbers16 bytes) i 0 ≡ get_or bytes (2 * i) 0 + 256 * get_or bytes (2 * i + 1) 0
unfolding numbers16
bytes_of16 [] i h = absurd (omega arith)
bytes_of16 (a ∷ []) i h = absurd (omega arith)
bytes_of16 (a ∷ b ∷ rest) zero h = refl
bytes_of16 (a ∷ b ∷ rest) (suc i) h =
    let first : 2 * suc i ≡ suc (suc (2 * i)) = omega arith in
    let second : 2 * suc i + 1 ≡ suc (suc (2 * i + 1)) = omega arith in
    bytes_of16 rest i (omega arith)
    ∙ sym (ap₂ (λ (p q : ℕ). get_or (a ∷ b ∷ rest) p 0 + 256 * get_or (a ∷ b ∷ rest) q 0) first second)

bytes_of32 : (bytes : List ℕ) (i : ℕ) → 4 * i + 3 < length bytes
    → get_or (numbers32 bytes) i 0 ≡ get_or bytes (4 * i) 0 + 256 * get_or bytes (4 * i + 1) 0 + 65536 * get_or bytes (4 * i + 2) 0 + 16777216 * get_or bytes (4 * i + 3) 0
unfolding numbers32
bytes_of32 [] i h = absurd (omega arith)
bytes_of32 (a ∷ []) i h = absurd (omega arith)
bytes_of32 (a ∷ b ∷ []) i h = absurd (omega arith)
bytes_of32 (a ∷ b ∷ c ∷ []) i h = absurd (omega arith)
bytes_of32 (a ∷ b ∷ c ∷ d ∷ rest) zero h = refl
bytes_of32 (a ∷ b ∷ c ∷ d ∷ rest) (suc i) h =
    let zeroth : 4 * suc i ≡ suc (suc (suc (suc (4 * i)))) = omega arith in
    let later : (k : ℕ) → 4 * suc i + k ≡ suc (suc (suc (suc (4 * i + k)))) = λ k. omega arith in
    let bs : List ℕ = a ∷ b ∷ c ∷ d ∷ rest in
    bytes_of32 rest i (omega arith)
    ∙ sym
    (ap₂ (λ (p q : ℕ). get_or bs p 0 + 256 * get_or bs q 0 + 65536 * get_or bs (4 * suc i + 2) 0 + 16777216 * get_or bs (4 * suc i + 3) 0) zeroth (later 1)
    ∙ ap₂ (λ (p q : ℕ). get_or rest (4 * i) 0 + 256 * get_or rest (4 * i + 1) 0 + 65536 * get_or bs p 0 + 16777216 * get_or bs q 0) (later 2) (later 3))

module _ (bytes : List ℕ) (at : ℕ) where
  pub inside16 : at < length (whole16 bytes) → 2 * at + 1 < length bytes
  inside16 h = omega (arith, (whole_of16 bytes (omega arith)).size)

  pub inside32 : at < length (whole32 bytes) → 4 * at + 3 < length bytes
  inside32 h = omega (arith, (whole_of32 bytes (omega arith)).size)

  pub entry16 : {p q : ℕ} → at < length (whole16 bytes) → p ≡ get_or bytes (2 * at) 0 → q ≡ get_or bytes (2 * at + 1) 0
      → p + 256 * q ≡ get_or (whole16 bytes) at 0
  entry16 h a b = rw (a, b) (sym (bytes_of16 bytes at (inside16 h)) ∙ ap (λ (xs : List ℕ). get_or xs at 0) (sym (whole_of16 bytes (omega arith)).all))

  pub entry32 : {p q r s : ℕ} → at < length (whole32 bytes) → p ≡ get_or bytes (4 * at) 0 → q ≡ get_or bytes (4 * at + 1) 0
      → r ≡ get_or bytes (4 * at + 2) 0 → s ≡ get_or bytes (4 * at + 3) 0
      → p + 256 * q + 65536 * r + 16777216 * s ≡ get_or (whole32 bytes) at 0
  entry32 h a b c d =
      rw (a, b, c, d) (sym (bytes_of32 bytes at (inside32 h)) ∙ ap (λ (xs : List ℕ). get_or xs at 0) (sym (whole_of32 bytes (omega arith)).all))
