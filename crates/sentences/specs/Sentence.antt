-- The sentence of a reason (02, Paper 6): English, a line each, with the pair x, y and the split point c. Each kind of
-- reason begins with its own letter. Edges are `low-high`; loops and orders are points with `-` between.
use Rattle.std.specs.Prelude.{ℕ, List, [], ◌∷◌, ◌++◌}
use Rattle.text.specs.Decimal.{field_text}
use Rattle.sentences.specs.Reason.{Reason, struck, third, loop, exchange, move, three_opt, split, reorder, ReasonedPair}

-- "Struck edge "
abbrev pub struck_words : List ℕ
struck_words = 83 ∷ 116 ∷ 114 ∷ 117 ∷ 99 ∷ 107 ∷ 32 ∷ 101 ∷ 100 ∷ 103 ∷ 101 ∷ 32 ∷ []

-- "Third edge at "
abbrev pub third_words : List ℕ
third_words = 84 ∷ 104 ∷ 105 ∷ 114 ∷ 100 ∷ 32 ∷ 101 ∷ 100 ∷ 103 ∷ 101 ∷ 32 ∷ 97 ∷ 116 ∷ 32 ∷ []

-- "Loop "
abbrev pub loop_word : List ℕ
loop_word = 76 ∷ 111 ∷ 111 ∷ 112 ∷ 32 ∷ []

-- "Exchanging "
abbrev pub exchanging_word : List ℕ
exchanging_word = 69 ∷ 120 ∷ 99 ∷ 104 ∷ 97 ∷ 110 ∷ 103 ∷ 105 ∷ 110 ∷ 103 ∷ 32 ∷ []

-- "Moving "
abbrev pub moving_word : List ℕ
moving_word = 77 ∷ 111 ∷ 118 ∷ 105 ∷ 110 ∷ 103 ∷ 32 ∷ []

-- "Crossing "
abbrev pub crossing_word : List ℕ
crossing_word = 67 ∷ 114 ∷ 111 ∷ 115 ∷ 115 ∷ 105 ∷ 110 ∷ 103 ∷ 32 ∷ []

-- "Further split at "
abbrev pub split_words : List ℕ
split_words = 70 ∷ 117 ∷ 114 ∷ 116 ∷ 104 ∷ 101 ∷ 114 ∷ 32 ∷ 115 ∷ 112 ∷ 108 ∷ 105 ∷ 116 ∷ 32 ∷ 97 ∷ 116 ∷ 32 ∷ []

-- "New order "
abbrev pub order_words : List ℕ
order_words = 78 ∷ 101 ∷ 119 ∷ 32 ∷ 111 ∷ 114 ∷ 100 ∷ 101 ∷ 114 ∷ 32 ∷ []

-- "-"
abbrev pub dash : List ℕ
dash = 45 ∷ []

-- " and "
abbrev pub and_word : List ℕ
and_word = 32 ∷ 97 ∷ 110 ∷ 100 ∷ 32 ∷ []

-- " between "
abbrev pub between_word : List ℕ
between_word = 32 ∷ 98 ∷ 101 ∷ 116 ∷ 119 ∷ 101 ∷ 101 ∷ 110 ∷ 32 ∷ []

-- " with centres "
abbrev pub centres_words : List ℕ
centres_words = 32 ∷ 119 ∷ 105 ∷ 116 ∷ 104 ∷ 32 ∷ 99 ∷ 101 ∷ 110 ∷ 116 ∷ 114 ∷ 101 ∷ 115 ∷ 32 ∷ []

-- " saves "
abbrev pub saves_word : List ℕ
saves_word = 32 ∷ 115 ∷ 97 ∷ 118 ∷ 101 ∷ 115 ∷ 32 ∷ []

-- " shuts out "
abbrev pub shuts_words : List ℕ
shuts_words = 32 ∷ 115 ∷ 104 ∷ 117 ∷ 116 ∷ 115 ∷ 32 ∷ 111 ∷ 117 ∷ 116 ∷ 32 ∷ []

-- " and shuts out "
abbrev pub and_shuts_words : List ℕ
and_shuts_words = 32 ∷ 97 ∷ 110 ∷ 100 ∷ 32 ∷ 115 ∷ 104 ∷ 117 ∷ 116 ∷ 115 ∷ 32 ∷ 111 ∷ 117 ∷ 116 ∷ 32 ∷ []

-- " settles "
abbrev pub settles_word : List ℕ
settles_word = 32 ∷ 115 ∷ 101 ∷ 116 ∷ 116 ∷ 108 ∷ 101 ∷ 115 ∷ 32 ∷ []

-- " and settles "
abbrev pub and_settles_words : List ℕ
and_settles_words = 32 ∷ 97 ∷ 110 ∷ 100 ∷ 32 ∷ 115 ∷ 101 ∷ 116 ∷ 116 ∷ 108 ∷ 101 ∷ 115 ∷ 32 ∷ []

-- " as neighbours of "
abbrev pub neighbours_words : List ℕ
neighbours_words = 32 ∷ 97 ∷ 115 ∷ 32 ∷ 110 ∷ 101 ∷ 105 ∷ 103 ∷ 104 ∷ 98 ∷ 111 ∷ 117 ∷ 114 ∷ 115 ∷ 32 ∷ 111 ∷ 102 ∷ 32 ∷ []

-- ".\n"
abbrev pub stop : List ℕ
stop = 46 ∷ 10 ∷ []

-- the end of a sentence, behind the word that says what becomes of the pair: `3 and 8 as neighbours of 5.` and a
-- newline
unfoldable pub pair_text : (becomes : List ℕ) (c x y : ℕ) → List ℕ
pair_text becomes c x y = field_text becomes x ++ field_text and_word y ++ field_text neighbours_words c ++ stop

-- points in a row, a `-` before each
unfoldable pub dashed : List ℕ → List ℕ
dashed [] = []
dashed (v ∷ vs) = field_text dash v ++ dashed vs

unfoldable pub sentence : (c x y : ℕ) → Reason → List ℕ
sentence c x y (struck p q) = field_text struck_words p ++ field_text dash q ++ pair_text shuts_words c x y
sentence c x y (third w) = field_text third_words w ++ pair_text shuts_words c x y
sentence c x y (loop p q r) = field_text loop_word p ++ field_text dash q ++ field_text dash r ++ pair_text shuts_words c x y
sentence c x y (exchange p q u v saved) =
    field_text exchanging_word p ++ field_text dash q ++ field_text and_word u ++ field_text dash v ++ field_text saves_word saved
    ++ pair_text and_shuts_words c x y
sentence c x y (move w u v saved) =
    field_text moving_word w ++ field_text between_word u ++ field_text and_word v ++ field_text saves_word saved
    ++ pair_text and_shuts_words c x y
sentence c x y (three_opt p q r s saved) =
    field_text crossing_word p ++ field_text dash q ++ field_text centres_words r ++ field_text and_word s ++ field_text saves_word saved
    ++ pair_text and_settles_words c x y
sentence c x y (split w) = field_text split_words w ++ pair_text settles_word c x y
sentence c x y (reorder u vs v saved) =
    field_text order_words u ++ dashed vs ++ field_text dash v ++ field_text saves_word saved ++ pair_text and_settles_words c x y

-- the sentences of a list of reasons at the split point c, one after another
unfoldable pub text_of : (c : ℕ) → List ReasonedPair → List ℕ
text_of c [] = []
text_of c (t ∷ ts) = sentence c t.x t.y t.reason ++ text_of c ts

-- a sentence has at most so many bytes, its newline counted: points up to 180, savings up to eight digits, orders of up
-- to 14 points
abbrev pub sentence_bytes : ℕ
sentence_bytes = 128
