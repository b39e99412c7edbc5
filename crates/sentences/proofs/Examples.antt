-- A sentence of each kind, byte for byte. Assumes nothing.
use Prim.Native.Nat.{ℕ}
use mathlib.Core.Path.{◌≡◌, refl}
use mathlib.Core.List.{List, [], ◌∷◌}
use Rattle.text.specs.Decimal.{field_text, decimal, digits}
use Rattle.sentences.specs.Reason.{Reason, struck, third, loop, exchange, move, three_opt, split, reorder, ReasonedPair}
use Rattle.sentences.specs.Sentence.{pair_text, dashed, sentence, text_of}

abbrev pub told : (x y : ℕ) → Reason → ReasonedPair
told x y r = record { x = x; y = y; reason = r }

-- a reason of each kind for neighbours of 5
abbrev pub examples : List ReasonedPair
examples =
    told 3 8 (struck 3 5)
    ∷ told 3 8 (third 5)
    ∷ told 1 2 (loop 1 2 5)
    ∷ told 3 8 (exchange 3 5 1 2 12)
    ∷ told 3 8 (move 5 1 2 7)
    ∷ told 3 8 (three_opt 1 2 3 8 3)
    ∷ told 3 8 (split 9)
    ∷ told 3 8 (reorder 1 (4 ∷ 3 ∷ []) 9 5)
    ∷ []

-- "Struck edge 3-5 shuts out 3 and 8 as neighbours of 5."
-- "Third edge at 5 shuts out 3 and 8 as neighbours of 5."
-- "Loop 1-2-5 shuts out 1 and 2 as neighbours of 5."
-- "Exchanging 3-5 and 1-2 saves 12 and shuts out 3 and 8 as neighbours of 5."
-- "Moving 5 between 1 and 2 saves 7 and shuts out 3 and 8 as neighbours of 5."
-- "Crossing 1-2 with centres 3 and 8 saves 3 and settles 3 and 8 as neighbours of 5."
-- "Further split at 9 settles 3 and 8 as neighbours of 5."
-- "New order 1-4-3-9 saves 5 and settles 3 and 8 as neighbours of 5."
abbrev pub example_text : List ℕ
example_text =
    83 ∷ 116 ∷ 114 ∷ 117 ∷ 99 ∷ 107 ∷ 32 ∷ 101 ∷ 100 ∷ 103 ∷ 101 ∷ 32 ∷ 51 ∷ 45 ∷ 53 ∷ 32 ∷ 115 ∷ 104 ∷ 117 ∷ 116 ∷ 115 ∷
    32 ∷ 111 ∷ 117 ∷ 116 ∷ 32 ∷ 51 ∷ 32 ∷ 97 ∷ 110 ∷ 100 ∷ 32 ∷ 56 ∷ 32 ∷ 97 ∷ 115 ∷ 32 ∷ 110 ∷ 101 ∷ 105 ∷ 103 ∷ 104 ∷ 98 ∷
    111 ∷ 117 ∷ 114 ∷ 115 ∷ 32 ∷ 111 ∷ 102 ∷ 32 ∷ 53 ∷ 46 ∷ 10 ∷
    84 ∷ 104 ∷ 105 ∷ 114 ∷ 100 ∷ 32 ∷ 101 ∷ 100 ∷ 103 ∷ 101 ∷ 32 ∷ 97 ∷ 116 ∷ 32 ∷ 53 ∷ 32 ∷ 115 ∷ 104 ∷ 117 ∷ 116 ∷ 115 ∷
    32 ∷ 111 ∷ 117 ∷ 116 ∷ 32 ∷ 51 ∷ 32 ∷ 97 ∷ 110 ∷ 100 ∷ 32 ∷ 56 ∷ 32 ∷ 97 ∷ 115 ∷ 32 ∷ 110 ∷ 101 ∷ 105 ∷ 103 ∷ 104 ∷ 98 ∷
    111 ∷ 117 ∷ 114 ∷ 115 ∷ 32 ∷ 111 ∷ 102 ∷ 32 ∷ 53 ∷ 46 ∷ 10 ∷
    76 ∷ 111 ∷ 111 ∷ 112 ∷ 32 ∷ 49 ∷ 45 ∷ 50 ∷ 45 ∷ 53 ∷ 32 ∷ 115 ∷ 104 ∷ 117 ∷ 116 ∷ 115 ∷ 32 ∷ 111 ∷ 117 ∷ 116 ∷ 32 ∷ 49 ∷
    32 ∷ 97 ∷ 110 ∷ 100 ∷ 32 ∷ 50 ∷ 32 ∷ 97 ∷ 115 ∷ 32 ∷ 110 ∷ 101 ∷ 105 ∷ 103 ∷ 104 ∷ 98 ∷ 111 ∷ 117 ∷ 114 ∷ 115 ∷ 32 ∷
    111 ∷ 102 ∷ 32 ∷ 53 ∷ 46 ∷ 10 ∷
    69 ∷ 120 ∷ 99 ∷ 104 ∷ 97 ∷ 110 ∷ 103 ∷ 105 ∷ 110 ∷ 103 ∷ 32 ∷ 51 ∷ 45 ∷ 53 ∷ 32 ∷ 97 ∷ 110 ∷ 100 ∷ 32 ∷ 49 ∷ 45 ∷ 50 ∷
    32 ∷ 115 ∷ 97 ∷ 118 ∷ 101 ∷ 115 ∷ 32 ∷ 49 ∷ 50 ∷ 32 ∷ 97 ∷ 110 ∷ 100 ∷ 32 ∷ 115 ∷ 104 ∷ 117 ∷ 116 ∷ 115 ∷ 32 ∷ 111 ∷
    117 ∷ 116 ∷ 32 ∷ 51 ∷ 32 ∷ 97 ∷ 110 ∷ 100 ∷ 32 ∷ 56 ∷ 32 ∷ 97 ∷ 115 ∷ 32 ∷ 110 ∷ 101 ∷ 105 ∷ 103 ∷ 104 ∷ 98 ∷ 111 ∷
    117 ∷ 114 ∷ 115 ∷ 32 ∷ 111 ∷ 102 ∷ 32 ∷ 53 ∷ 46 ∷ 10 ∷
    77 ∷ 111 ∷ 118 ∷ 105 ∷ 110 ∷ 103 ∷ 32 ∷ 53 ∷ 32 ∷ 98 ∷ 101 ∷ 116 ∷ 119 ∷ 101 ∷ 101 ∷ 110 ∷ 32 ∷ 49 ∷ 32 ∷ 97 ∷ 110 ∷
    100 ∷ 32 ∷ 50 ∷ 32 ∷ 115 ∷ 97 ∷ 118 ∷ 101 ∷ 115 ∷ 32 ∷ 55 ∷ 32 ∷ 97 ∷ 110 ∷ 100 ∷ 32 ∷ 115 ∷ 104 ∷ 117 ∷ 116 ∷ 115 ∷
    32 ∷ 111 ∷ 117 ∷ 116 ∷ 32 ∷ 51 ∷ 32 ∷ 97 ∷ 110 ∷ 100 ∷ 32 ∷ 56 ∷ 32 ∷ 97 ∷ 115 ∷ 32 ∷ 110 ∷ 101 ∷ 105 ∷ 103 ∷ 104 ∷ 98 ∷
    111 ∷ 117 ∷ 114 ∷ 115 ∷ 32 ∷ 111 ∷ 102 ∷ 32 ∷ 53 ∷ 46 ∷ 10 ∷
    67 ∷ 114 ∷ 111 ∷ 115 ∷ 115 ∷ 105 ∷ 110 ∷ 103 ∷ 32 ∷ 49 ∷ 45 ∷ 50 ∷ 32 ∷ 119 ∷ 105 ∷ 116 ∷ 104 ∷ 32 ∷ 99 ∷ 101 ∷ 110 ∷
    116 ∷ 114 ∷ 101 ∷ 115 ∷ 32 ∷ 51 ∷ 32 ∷ 97 ∷ 110 ∷ 100 ∷ 32 ∷ 56 ∷ 32 ∷ 115 ∷ 97 ∷ 118 ∷ 101 ∷ 115 ∷ 32 ∷ 51 ∷ 32 ∷ 97 ∷
    110 ∷ 100 ∷ 32 ∷ 115 ∷ 101 ∷ 116 ∷ 116 ∷ 108 ∷ 101 ∷ 115 ∷ 32 ∷ 51 ∷ 32 ∷ 97 ∷ 110 ∷ 100 ∷ 32 ∷ 56 ∷ 32 ∷ 97 ∷ 115 ∷
    32 ∷ 110 ∷ 101 ∷ 105 ∷ 103 ∷ 104 ∷ 98 ∷ 111 ∷ 117 ∷ 114 ∷ 115 ∷ 32 ∷ 111 ∷ 102 ∷ 32 ∷ 53 ∷ 46 ∷ 10 ∷
    70 ∷ 117 ∷ 114 ∷ 116 ∷ 104 ∷ 101 ∷ 114 ∷ 32 ∷ 115 ∷ 112 ∷ 108 ∷ 105 ∷ 116 ∷ 32 ∷ 97 ∷ 116 ∷ 32 ∷ 57 ∷ 32 ∷ 115 ∷ 101 ∷
    116 ∷ 116 ∷ 108 ∷ 101 ∷ 115 ∷ 32 ∷ 51 ∷ 32 ∷ 97 ∷ 110 ∷ 100 ∷ 32 ∷ 56 ∷ 32 ∷ 97 ∷ 115 ∷ 32 ∷ 110 ∷ 101 ∷ 105 ∷ 103 ∷
    104 ∷ 98 ∷ 111 ∷ 117 ∷ 114 ∷ 115 ∷ 32 ∷ 111 ∷ 102 ∷ 32 ∷ 53 ∷ 46 ∷ 10 ∷
    78 ∷ 101 ∷ 119 ∷ 32 ∷ 111 ∷ 114 ∷ 100 ∷ 101 ∷ 114 ∷ 32 ∷ 49 ∷ 45 ∷ 52 ∷ 45 ∷ 51 ∷ 45 ∷ 57 ∷ 32 ∷ 115 ∷ 97 ∷ 118 ∷ 101 ∷
    115 ∷ 32 ∷ 53 ∷ 32 ∷ 97 ∷ 110 ∷ 100 ∷ 32 ∷ 115 ∷ 101 ∷ 116 ∷ 116 ∷ 108 ∷ 101 ∷ 115 ∷ 32 ∷ 51 ∷ 32 ∷ 97 ∷ 110 ∷ 100 ∷
    32 ∷ 56 ∷ 32 ∷ 97 ∷ 115 ∷ 32 ∷ 110 ∷ 101 ∷ 105 ∷ 103 ∷ 104 ∷ 98 ∷ 111 ∷ 117 ∷ 114 ∷ 115 ∷ 32 ∷ 111 ∷ 102 ∷ 32 ∷ 53 ∷
    46 ∷ 10 ∷
    []

pub examples_told : text_of 5 examples ≡ example_text
unfolding text_of sentence pair_text dashed field_text decimal digits
examples_told = refl
