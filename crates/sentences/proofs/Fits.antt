-- Sentences of small numbers have at most as many bytes as there is room for. Assumes nothing.
use Prim.Native.Nat.{ℕ, suc, ◌*◌, ◌≤◌, ◌<◌}
use mathlib.Core.List.{List, [], ◌∷◌, Memᴰ}
use mathlib.Core.Path.{refl}
use native.Mathlib.Omega.{arith}
use lib.ListN.{length, get_or, length-append}
use Rattle.text.specs.Decimal.{field_text}
use Rattle.text.proofs.Decimals.{decimal-length, field_size}
use Rattle.sentences.specs.Reason.{Reason, struck, third, loop, exchange, move, three_opt, split, reorder, ReasonedPair, points_of, saved_of}
use Rattle.sentences.specs.Sentence.{dash, dashed, sentence, text_of, sentence_bytes}
use Rattle.sentences.specs.Small.{Small}
use Rattle.sentences.proofs.Sizes.{size, struck_size, third_size, loop_size, exchange_size, move_size, three_opt_size, split_size, reorder_size}

-- points of at most three digits with their dashes
dashed_few : (vs : List ℕ) → ((i : ℕ) → i < length vs → size (get_or vs i 0) ≤ 3) → length (dashed vs) ≤ 4 * length vs
unfolding dashed
dashed_few [] d = omega arith
dashed_few (v ∷ vs) d =
    omega (arith, length-append (field_text dash v) (dashed vs), field_size dash v, d 0 (omega arith), dashed_few vs (λ i h. d (suc i) (omega arith)))

reason_fits : (c x y : ℕ) (r : Reason)
    → ((i : ℕ) → i < length (c ∷ x ∷ y ∷ points_of r) → size (get_or (c ∷ x ∷ y ∷ points_of r) i 0) ≤ 3)
    → length (points_of r) ≤ 14 → size (saved_of r) ≤ 8 → length (sentence c x y r) ≤ sentence_bytes
unfolding points_of saved_of
reason_fits c x y (struck p q) d o g = omega (arith, struck_size c x y p q, d 0 (omega arith), d 1 (omega arith), d 2 (omega arith), d 3 (omega arith), d 4 (omega arith))
reason_fits c x y (third w) d o g = omega (arith, third_size c x y w, d 0 (omega arith), d 1 (omega arith), d 2 (omega arith), d 3 (omega arith))
reason_fits c x y (loop p q r) d o g = omega (arith, loop_size c x y p q r, d 0 (omega arith), d 1 (omega arith), d 2 (omega arith), d 3 (omega arith), d 4 (omega arith), d 5 (omega arith))
reason_fits c x y (exchange p q u v saved) d o g = omega (arith, exchange_size c x y p q u v saved, d 0 (omega arith), d 1 (omega arith), d 2 (omega arith), d 3 (omega arith), d 4 (omega arith), d 5 (omega arith), d 6 (omega arith))
reason_fits c x y (move w u v saved) d o g = omega (arith, move_size c x y w u v saved, d 0 (omega arith), d 1 (omega arith), d 2 (omega arith), d 3 (omega arith), d 4 (omega arith), d 5 (omega arith))
reason_fits c x y (three_opt p q r s saved) d o g = omega (arith, three_opt_size c x y p q r s saved, d 0 (omega arith), d 1 (omega arith), d 2 (omega arith), d 3 (omega arith), d 4 (omega arith), d 5 (omega arith), d 6 (omega arith))
reason_fits c x y (split w) d o g = omega (arith, split_size c x y w, d 0 (omega arith), d 1 (omega arith), d 2 (omega arith), d 3 (omega arith))
reason_fits c x y (reorder u vs v saved) d o g =
    omega (arith, reorder_size c x y u vs v saved, d 0 (omega arith), d 1 (omega arith), d 2 (omega arith), d 3 (omega arith), d 4 (omega arith), dashed_few vs (λ i h. d (suc (suc (suc (suc (suc i))))) (omega arith)))

pub sentence_fits : (c : ℕ) (t : ReasonedPair) → Small c t → length (sentence c t.x t.y t.reason) ≤ sentence_bytes
sentence_fits c t s =
    reason_fits c t.x t.y t.reason (λ i h. decimal-length 2 _ (s.points i h)) s.order (decimal-length 7 _ s.saving)

pub text_fits : (c : ℕ) (ts : List ReasonedPair) → ((t : ReasonedPair) → Memᴰ t ts → Small c t) → length (text_of c ts) ≤ sentence_bytes * length ts
unfolding text_of
text_fits c [] s = omega arith
text_fits c (t ∷ ts) s =
    omega (arith, length-append (sentence c t.x t.y t.reason) (text_of c ts), sentence_fits c t (s t (Memᴰ.head refl)), text_fits c ts (λ u m. s u (Memᴰ.tail m)))
