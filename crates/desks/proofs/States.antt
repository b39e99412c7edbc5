-- The desks' state as numbers: what is written at a place is read there, and no other number changes; a desk's three
-- numbers. Assumes nothing.
use Prim.Native.Nat.{ℕ, ◌+◌, ◌-◌, ◌*◌, ◌/◌, ◌%◌, ◌≤◌, ◌<◌}
use mathlib.Core.Path.{◌≡◌, refl, sym, ◌∙◌, ap, ap₂}
use mathlib.Core.List.{List, ◌++◌}
use mathlib.Core.Logic.{◌⊎◌, inl, inr}
use native.Mathlib.Nat.{add-zero}
use native.Mathlib.Decide.{dec_lt}
use native.Mathlib.Omega.{arith}
use lib.ListN.{length, get_or, take, drop, length-append, length-drop, get_or-append}
use lib.Seq.{length-take-le, get_or-take, get_or-drop, get_or-append-add}
use borrow.Author.Tests.{eq-eqb}
use Rattle.endian.specs.Bytes.{whole16, little_endian}
use Rattle.endian.specs.asks.Bytes.{Put}
use Rattle.endian.proofs.Reading.{bytes_of16, whole_count16}
use Rattle.desks.specs.State.{state_bytes, number_at, set_number, set_desk}
use Rattle.desks.specs.asks.State.{PlaceAsked, SetAs}

-- a number is read from the first 50 bytes
module _ {state : List ℕ} {at : ℕ} (asked : PlaceAsked state at) where
  pub first_bytes : length (take state_bytes state) ≡ state_bytes
  first_bytes = length-take-le state_bytes state asked.room

  pub place_inside : at < length (whole16 (take state_bytes state))
  place_inside = omega (arith, asked.inside, first_bytes, whole_count16 (take state_bytes state) (omega (arith, first_bytes)))

  pub number_read : {r : ℕ} → r ≡ get_or (whole16 (take state_bytes state)) at 0 → r ≡ number_at state at
  unfolding number_at whole16
  number_read e =
      e
      ∙ rw (eq-eqb (length (take state_bytes state) % 2) 0 (omega (arith, first_bytes))) refl
      ∙ bytes_of16 (take state_bytes state) at (omega (arith, first_bytes, asked.inside))
      ∙ ap₂ (λ (p q : ℕ). p + 256 * q) (get_or-take state_bytes state (2 * at) 0 (omega (arith, asked.inside)))
      (get_or-take state_bytes state (2 * at + 1) 0 (omega (arith, asked.inside)))

-- a number that is written
pub put_number : {state : List ℕ} {at x : ℕ} {left : List ℕ} → Put 2 state at x left → left ≡ set_number state at x
unfolding set_number
put_number p = p.written

module _ (state : List ℕ) (at x : ℕ) (inside : 2 * (at + 1) ≤ length state) where
  front : length (take (2 * at) state) ≡ 2 * at
  front = length-take-le (2 * at) state (omega arith)

  pub set-length : length (set_number state at x) ≡ length state
  unfolding set_number little_endian
  set-length =
      omega (
        arith,
        length-append (take (2 * at) state) (little_endian 2 x ++ drop (2 * (at + 1)) state),
        front,
        length-append (little_endian 2 x) (drop (2 * (at + 1)) state),
        length-drop (2 * (at + 1)) state,
      )

  -- its two bytes
  byte_before : (i : ℕ) → i < 2 * at → get_or (set_number state at x) i 0 ≡ get_or state i 0
  unfolding set_number
  byte_before i h = get_or-append (take (2 * at) state) _ 0 i (omega (arith, front)) ∙ get_or-take (2 * at) state i 0 h

  byte_from : (j : ℕ) → get_or (set_number state at x) (2 * at + j) 0 ≡ get_or (little_endian 2 x ++ drop (2 * (at + 1)) state) j 0
  unfolding set_number
  byte_from j =
      ap (λ (k : ℕ). get_or (set_number state at x) (k + j) 0) (sym front)
      ∙ get_or-append-add (take (2 * at) state) (little_endian 2 x ++ drop (2 * (at + 1)) state) j 0

  byte_behind : (j : ℕ) → get_or (set_number state at x) (2 * (at + 1) + j) 0 ≡ get_or state (2 * (at + 1) + j) 0
  unfolding little_endian
  byte_behind j =
      let e : 2 * (at + 1) + j ≡ 2 * at + (2 + j) = omega arith in
      ap (λ (k : ℕ). get_or (set_number state at x) k 0) e
      ∙ byte_from (2 + j)
      ∙ get_or-append-add (little_endian 2 x) (drop (2 * (at + 1)) state) j 0
      ∙ get_or-drop (2 * (at + 1)) state j 0

  -- bytes outside the entry stay
  pub byte_other : (i : ℕ) → (i < 2 * at) ⊎ (2 * (at + 1) ≤ i) → get_or (set_number state at x) i 0 ≡ get_or state i 0
  byte_other i (inl h) = byte_before i h
  byte_other i (inr h) =
      let e : i ≡ 2 * (at + 1) + (i - 2 * (at + 1)) = omega arith in
      ap (λ (k : ℕ). get_or (set_number state at x) k 0) e ∙ byte_behind (i - 2 * (at + 1)) ∙ ap (λ (k : ℕ). get_or state k 0) (sym e)

  -- WRITTEN AND READ: the number's 16 bits are read at its place, and every other number stays
  pub read_same : number_at (set_number state at x) at ≡ x % 65536
  unfolding number_at little_endian
  read_same =
      let first : get_or (set_number state at x) (2 * at) 0 ≡ x % 256 = ap (λ (k : ℕ). get_or (set_number state at x) k 0)
      (sym (add-zero (2 * at))) ∙ byte_from 0 in
      let second : get_or (set_number state at x) (2 * at + 1) 0 ≡ x / 256 % 256 = byte_from 1 in
      rw (first, second) (omega arith)

  pub read_other : (i : ℕ) → (i ≡ at → ⊥) → number_at (set_number state at x) i ≡ number_at state i
  unfolding number_at
  read_other i h =
      elim (dec_lt i at) [
        | yes l ↦ ap₂ (λ (p q : ℕ). p + 256 * q) (byte_other (2 * i) (inl (omega arith))) (byte_other (2 * i + 1) (inl (omega arith)))
        | no l ↦ let g : at < i = omega arith in ap₂ (λ (p q : ℕ). p + 256 * q) (byte_other (2 * i) (inr (omega arith)))
            (byte_other (2 * i + 1) (inr (omega arith)))
      ]

-- a desk's three numbers, written one after the other
pub desk_set : {state one two three : List ℕ} {d index owner lines : ℕ} → Put 2 state (3 * d - 2) index one →
    Put 2 one (3 * d - 1) owner two → Put 2 two (3 * d) lines three
    → SetAs state d index owner lines three
unfolding set_desk
desk_set {d = d} {index} {owner} {lines} p q r =
    record {
      kept = r.kept ∙ q.kept ∙ p.kept;
      written =
          put_number r
          ∙ ap (λ (x : List ℕ). set_number x (3 * d) lines)
          (put_number q ∙ ap (λ (x : List ℕ). set_number x (3 * d - 1) owner) (put_number p));
    }
