-- The sentence of a value of the code, once its variant is known: its room, what is written, and its length. Assumes
-- nothing.
use Prim.Native.Nat.{ℕ, ◌+◌}
use mathlib.Core.Path.{◌≡◌, sym}
use mathlib.Core.List.{List}
use native.Mathlib.Omega.{arith}
use Rattle.text.specs.Words.{Room, Wrote}
use Rattle.sentences.specs.declared.reason.Reason.{Reason}
use Rattle.sentences.specs.Reason.{struck, third, loop, exchange, move, split}
use Rattle.sentences.specs.Sentence.{sentence}
use Rattle.sentences.specs.asks.Sentence.{reason_of, point_digits, saved_digits, DigitsIs, ThreeDigitsIs, LengthIs}
use Rattle.sentences.proofs.Sizes.{struck_size, third_size, loop_size, exchange_size, move_size, split_size}

module _ (c x y : ℕ) {reason is : Reason} (e : reason ≡ is) where
  pub told_room : {out : List ℕ} {at : ℕ} → Room out at (sentence c x y (reason_of reason)) → Room out at (sentence c x y (reason_of is))
  told_room p = rw (sym e) p

  pub told_wrote : {out left : List ℕ} {at r : ℕ} → Wrote out at (sentence c x y (reason_of is)) r left → Wrote out at (sentence c x y (reason_of reason)) r left
  told_wrote w = rw e w

  pub told_length : {r : ℕ} → LengthIs (sentence c x y (reason_of is)) r → LengthIs (sentence c x y (reason_of reason)) r
  told_length l = rw e l

-- the pair's digits, and those of the reason's numbers
module _ {c x y a : ℕ} (pair : ThreeDigitsIs x y c a) where
  pub struck-length : {p q i j : ℕ} → DigitsIs point_digits p i → DigitsIs point_digits q j → LengthIs (sentence c x y (struck p q)) (49 + a + i + j)
  struck-length {p} {q} d e = record { same = omega (arith, struck_size c x y p q); few = omega arith }

  pub third_length : {w i : ℕ} → DigitsIs point_digits w i → LengthIs (sentence c x y (third w)) (50 + a + i)
  third_length {w} d = record { same = omega (arith, third_size c x y w); few = omega arith }

  pub loop_length : {p q r i : ℕ} → ThreeDigitsIs p q r i → LengthIs (sentence c x y (loop p q r)) (43 + a + i)
  loop_length {p} {q} {r} d = record { same = omega (arith, loop_size c x y p q r); few = omega arith }

  pub exchange_length : {p q u v saved i j k : ℕ} → ThreeDigitsIs p q u i → DigitsIs point_digits v j → DigitsIs saved_digits saved k
      → LengthIs (sentence c x y (exchange p q u v saved)) (65 + a + i + j + k)
  exchange_length {p} {q} {u} {v} {saved} d e f = record { same = omega (arith, exchange_size c x y p q u v saved); few = omega arith }

  pub move_length : {w u v saved i j : ℕ} → ThreeDigitsIs w u v i → DigitsIs saved_digits saved j → LengthIs (sentence c x y (move w u v saved)) (68 + a + i + j)
  move_length {w} {u} {v} {saved} d e = record { same = omega (arith, move_size c x y w u v saved); few = omega arith }

  pub split_length : {w i : ℕ} → DigitsIs point_digits w i → LengthIs (sentence c x y (split w)) (51 + a + i)
  split_length {w} d = record { same = omega (arith, split_size c x y w); few = omega arith }
