-- Decimal digits: the text of a number from that of its tenth, its length, that it is the number, and fields.
-- Assumes nothing.
use Prim.Native.Nat.{ℕ, zero, suc, ◌+◌, ◌-◌, ◌*◌, ◌/◌, ◌%◌, ◌^◌, ◌≤◌, ◌<◌}
use mathlib.Core.Path.{◌≡◌, refl, sym, ◌∙◌, ap}
use mathlib.Core.List.{List, [], ◌∷◌, ◌++◌}
use native.Mathlib.Nat.{pow-suc}
use native.Mathlib.Decide.{dec_lt}
use native.Mathlib.Omega.{arith}
use lib.ListN.{length, length-append, get_or-append}
use lib.Seq.{get_or-append_seam}
use borrow.Author.Tests.{lt-ltb, le-ltb}
use Rattle.text.specs.Words.{Room, Wrote}
use Rattle.text.specs.Decimal.{digits, decimal, value_from, IsDecimal, field_text}
use Rattle.text.specs.asks.Decimal.{DigitAsked}
use Rattle.text.proofs.Writing.{room_first, room_second, wrote_both}

digits_last : (k n : ℕ) → n < 10 → digits (suc k) n ≡ (48 + n) ∷ []
unfolding digits
digits_last k n h = rw (digits, lt-ltb n 10 h)

digits_more : (k n : ℕ) → 10 ≤ n → digits (suc k) n ≡ digits k (n / 10) ++ ((48 + n % 10) ∷ [])
unfolding digits
digits_more k n h = rw (digits, le-ltb n 10 h)

-- more places than a number has digits make no difference
digits_enough : (k j n : ℕ) → n < k → n < j → digits k n ≡ digits j n
digits_enough zero j n h g = absurd (omega arith)
digits_enough (suc k) zero n h g = absurd (omega arith)
digits_enough (suc k) (suc j) n h g = elim (dec_lt n 10) [
  | yes small ↦ digits_last k n small ∙ sym (digits_last j n small)
  | no large ↦
      digits_more k n (omega arith)
      ∙ ap (λ (l : List ℕ). l ++ ((48 + n % 10) ∷ [])) (digits_enough k j (n / 10) (omega arith) (omega arith))
      ∙ sym (digits_more j n (omega arith))
]

pub decimal_last : (n : ℕ) → n < 10 → decimal n ≡ (48 + n) ∷ []
unfolding decimal
decimal_last n h = digits_last n n h

pub decimal_more : (n : ℕ) → 10 ≤ n → decimal n ≡ decimal (n / 10) ++ ((48 + n % 10) ∷ [])
unfolding decimal
decimal_more n h = digits_more n n h ∙ ap (λ (l : List ℕ). l ++ ((48 + n % 10) ∷ [])) (digits_enough n (suc (n / 10)) (n / 10) (omega arith) (omega arith))

-- a number below 10 ^ k has at most k digits, and every number has one
pub decimal-length : (k n : ℕ) → n < 10 ^ suc k → length (decimal n) ≤ suc k
decimal-length zero n h = rw (decimal_last n h) (omega arith)
decimal-length (suc k) n h = elim (dec_lt n 10) [
  | yes small ↦ rw (decimal_last n small) (omega arith)
  | no large ↦
      let g : n < 10 ^ suc k * 10 = rw pow-suc at h in
      rw (decimal_more n (omega arith)) (omega (arith, length-append (decimal (n / 10)) ((48 + n % 10) ∷ []), decimal-length k (n / 10) (omega arith)))
]

-- the value of a text and one more digit
pub value_append : (before : ℕ) (t : List ℕ) (d : ℕ) → value_from before (t ++ (d ∷ [])) ≡ 10 * value_from before t + (d - 48)
unfolding value_from
value_append before [] d = refl
value_append before (x ∷ t) d = value_append (10 * before + (x - 48)) t d

-- a number that fits one digit
last_is : (n : ℕ) → n < 10 → IsDecimal n ((48 + n) ∷ [])
unfolding value_from
last_is n h = record {
  value = omega arith;
  digit = λ i g. elim (dec_lt i 1) [
    | yes k ↦ let e : i ≡ 0 = omega arith in rw e (omega arith, omega arith)
    | no k ↦ absurd (omega arith)
  ];
  some = omega arith;
  front = λ g. omega arith;
  none = λ e. ap (λ (d : ℕ). (48 + d) ∷ []) e;
}

more_is : (n : ℕ) (t : List ℕ) → 10 ≤ n → IsDecimal (n / 10) t → IsDecimal n (t ++ ((48 + n % 10) ∷ []))
more_is n t h d = record {
  value = value_append 0 t (48 + n % 10) ∙ ap (λ (v : ℕ). 10 * v + (48 + n % 10 - 48)) d.value ∙ omega arith;
  digit = λ i g. elim (dec_lt i (length t)) [
    | yes k ↦ rw (get_or-append t ((48 + n % 10) ∷ []) 0 i k) (d.digit i k)
    | no k ↦
        let e : i ≡ length t = omega (arith, length-append t ((48 + n % 10) ∷ [])) in
        rw (e, get_or-append_seam t (48 + n % 10) [] 0) (omega arith, omega arith)
  ];
  some = omega (arith, length-append t ((48 + n % 10) ∷ []));
  front = λ g. rw (get_or-append t ((48 + n % 10) ∷ []) 0 0 d.some) (d.front (omega arith));
  none = λ e. absurd (omega arith);
}

decimal_below : (k n : ℕ) → n < k → IsDecimal n (decimal n)
decimal_below zero n h = absurd (omega arith)
decimal_below (suc k) n h = elim (dec_lt n 10) [
  | yes small ↦ rw (decimal_last n small) (last_is n small)
  | no large ↦ rw (decimal_more n (omega arith)) (more_is n (decimal (n / 10)) (omega arith) (decimal_below k (n / 10) (omega arith)))
]

-- the text of n is n in decimal
pub decimal_is : (n : ℕ) → IsDecimal n (decimal n)
decimal_is n = decimal_below (suc n) n (omega arith)

-- writing the digits of a number: the room for each, and the whole
pub digit_asked_last : {out : List ℕ} {at n : ℕ} → Room out at (decimal n) → n < 10 → DigitAsked out at n
digit_asked_last {out} {at} {n} p h = record { small = h; inside = let q : at + length ((48 + n) ∷ []) ≤ length out = rw decimal_last at p.room in omega arith }

pub wrote_last : {out left : List ℕ} {at r n : ℕ} → n < 10 → Wrote out at ((48 + n) ∷ []) r left → Wrote out at (decimal n) r left
wrote_last {n = n} h w = rw (decimal_last n h) w

module _ {out : List ℕ} {at : ℕ} (n : ℕ) (h : 10 ≤ n) where
  whole_room : Room out at (decimal n) → Room out at (decimal (n / 10) ++ ((48 + n % 10) ∷ []))
  whole_room p = rw (decimal_more n h) at p

  pub tenth_room : Room out at (decimal n) → Room out at (decimal (n / 10))
  tenth_room p = room_first ((48 + n % 10) ∷ []) (whole_room p)

  pub digit_asked_more : {mid : List ℕ} {r d : ℕ} → Room out at (decimal n) → Wrote out at (decimal (n / 10)) r mid → d < 10 → DigitAsked mid r d
  digit_asked_more p w g = record { small = g; inside = let q = (room_second (whole_room p) w).room in omega arith }

  pub wrote_more : {mid left : List ℕ} {r s : ℕ} → Wrote out at (decimal (n / 10)) r mid → Wrote mid r ((48 + n % 10) ∷ []) s left → Wrote out at (decimal n) s left
  wrote_more v w = rw (decimal_more n h) (wrote_both v w)

-- a field of an equal number
pub field_room : {out : List ℕ} {at n e : ℕ} (word : List ℕ) → e ≡ n → Room out at (field_text word n) → Room out at (field_text word e)
field_room word h p = rw h p

pub field_wrote : {out left : List ℕ} {at r n e : ℕ} (word : List ℕ) → e ≡ n → Wrote out at (field_text word e) r left → Wrote out at (field_text word n) r left
field_wrote word h w = rw (sym h) w

-- a field of a number below 10 ^ k has at most k bytes behind its word
pub field-length : (k : ℕ) (word : List ℕ) (n : ℕ) → n < 10 ^ suc k → length (field_text word n) ≤ length word + suc k
unfolding field_text
field-length k word n h = omega (arith, length-append word (decimal n), decimal-length k n h)

pub field_size : (word : List ℕ) (n : ℕ) → length (field_text word n) ≡ length word + length (decimal n)
unfolding field_text
field_size word n = length-append word (decimal n)
