-- A line of the edge page (02, Paper 12): "A line has 24 columns and a newline".
use Rattle.std.specs.Prelude.{ℕ, Bool, cond, ◌&&◌, List, [], ◌∷◌, ◌++◌, eqb, leb, get_or, take, drop}
use Rattle.lengths.specs.Instance.{most_length}
use Rattle.marks.specs.Mark.{struck_mark, open_mark, pending_mark}
use Rattle.text.specs.Columns.{padded}
use Rattle.text.specs.Decimal.{value_from}
use Rattle.text.specs.Words.{blanks, open_word, struck_word, newline, same}

abbrev pub line_bytes : ℕ
line_bytes = 25

-- "from 17 `open`, `pending` or `struck`", with blanks to column 24
abbrev pub pending_word : List ℕ
pending_word = 112 ∷ 101 ∷ 110 ∷ 100 ∷ 105 ∷ 110 ∷ 103 ∷ []

unfoldable pub mark_word : ℕ → List ℕ
mark_word mark =
    cond (eqb mark open_mark) (open_word ++ blanks 4) (cond (eqb mark pending_mark) (pending_word ++ blanks 1) (struck_word ++ blanks 2))

-- "lower point in 1 to 3 and higher in 5 to 7, length in 9 to 15, all right-aligned without leading zeros; ..
-- blanks elsewhere"
unfoldable pub line_text : (a b length mark : ℕ) → List ℕ
line_text a b length mark = padded 3 a ++ blanks 1 ++ padded 3 b ++ blanks 1 ++ padded 7 length ++ blanks 1 ++ mark_word mark ++ newline

-- what is read from a line, whatever bytes it is: the value of columns 9 to 15, and the mark whose word begins with the
-- letter in column 17
unfoldable pub length_read : List ℕ → ℕ
length_read line = value_from 0 (take 7 (drop 8 line))

unfoldable pub mark_of_letter : ℕ → ℕ
mark_of_letter letter = cond (eqb letter 111) open_mark (cond (eqb letter 112) pending_mark struck_mark)

unfoldable pub mark_read : List ℕ → ℕ
mark_read line = mark_of_letter (get_or line 16 0)

-- the line is one of the edge ab: what is read from it, the length within the limit, makes the same line
unfoldable pub is_line : (a b : ℕ) → List ℕ → Bool
is_line a b line = leb (length_read line) most_length && same line (line_text a b (length_read line) (mark_read line))
