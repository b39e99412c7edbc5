-- How many bytes a sentence has: so many for its words, and the digits of its numbers. Assumes nothing.
use Prim.Native.Nat.{ℕ, ◌+◌}
use mathlib.Core.Path.{◌≡◌}
use mathlib.Core.List.{List}
use native.Mathlib.Omega.{arith}
use lib.ListN.{length, length-append}
use Rattle.text.specs.Decimal.{decimal}
use Rattle.text.proofs.Decimals.{field_size}
use Rattle.sentences.specs.Reason.{struck, third, loop, exchange, move, three_opt, split, reorder}
use Rattle.sentences.specs.Sentence.{pair_text, dashed, sentence}

-- the digits of n, and those of the pair and its split point
abbrev pub size : ℕ → ℕ
size n = length (decimal n)

abbrev pub pair_size : (c x y : ℕ) → ℕ
pair_size c x y = size x + size y + size c

pub pair_size_lem : (becomes : List ℕ) (c x y : ℕ) → length (pair_text becomes c x y) ≡ length becomes + 25 + pair_size c x y
unfolding pair_text
pair_size_lem becomes c x y = simp (length-append, field_size) (omega arith)

module _ (c x y : ℕ) where
  pub struck_size : (p q : ℕ) → length (sentence c x y (struck p q)) ≡ 49 + pair_size c x y + size p + size q
  unfolding sentence
  struck_size p q = simp (length-append, field_size, pair_size_lem) (omega arith)

  pub third_size : (w : ℕ) → length (sentence c x y (third w)) ≡ 50 + pair_size c x y + size w
  unfolding sentence
  third_size w = simp (length-append, field_size, pair_size_lem) (omega arith)

  pub loop_size : (p q r : ℕ) → length (sentence c x y (loop p q r)) ≡ 43 + pair_size c x y + size p + size q + size r
  unfolding sentence
  loop_size p q r = simp (length-append, field_size, pair_size_lem) (omega arith)

  pub exchange_size : (p q u v saved : ℕ) → length (sentence c x y (exchange p q u v saved)) ≡ 65 + pair_size c x y + size p + size q + size u + size v + size saved
  unfolding sentence
  exchange_size p q u v saved = simp (length-append, field_size, pair_size_lem) (omega arith)

  pub move_size : (w u v saved : ℕ) → length (sentence c x y (move w u v saved)) ≡ 68 + pair_size c x y + size w + size u + size v + size saved
  unfolding sentence
  move_size w u v saved = simp (length-append, field_size, pair_size_lem) (omega arith)

  pub three_opt_size : (p q r s saved : ℕ) → length (sentence c x y (three_opt p q r s saved)) ≡ 74 + pair_size c x y + size p + size q + size r + size s + size saved
  unfolding sentence
  three_opt_size p q r s saved = simp (length-append, field_size, pair_size_lem) (omega arith)

  pub split_size : (w : ℕ) → length (sentence c x y (split w)) ≡ 51 + pair_size c x y + size w
  unfolding sentence
  split_size w = simp (length-append, field_size, pair_size_lem) (omega arith)

  pub reorder_size : (u : ℕ) (vs : List ℕ) (v saved : ℕ) → length (sentence c x y (reorder u vs v saved)) ≡ 56 + pair_size c x y + size u + length (dashed vs) + size v + size saved
  unfolding sentence
  reorder_size u vs v saved = simp (length-append, field_size, pair_size_lem) (omega arith)
