-- Words among blanks, the only blank being a space, and the words of the language in ASCII.
use Rattle.std.specs.Prelude.{ℕ, ◌≡◌, Bool, true, false, ◌&&◌, List, [], ◌∷◌, ◌++◌, eqb}
use Rattle.text.specs.Words.{blank, blanks}

-- the colon of a keyword line, and the end of a line
abbrev pub colon : ℕ
colon = 58

abbrev pub newline : ℕ
newline = 10

-- the text is the word by itself, with blanks around it at will
pub record Sole (word text : List ℕ) : Type 0 where
  pub before : ℕ
  pub after : ℕ
  pub spelled : text ≡ blanks before ++ (word ++ blanks after)

-- the same, tested: what stands behind the blanks is the word, and then blanks
unfoldable pub after_blanks : List ℕ → List ℕ
after_blanks [] = []
after_blanks (b ∷ t) = elim (eqb b blank) [ true ↦ after_blanks t | false ↦ b ∷ t ]

unfoldable pub only_blanks : List ℕ → Bool
only_blanks [] = true
only_blanks (b ∷ t) = eqb b blank && only_blanks t

unfoldable pub word_then_blanks : List ℕ → List ℕ → Bool
word_then_blanks [] t = only_blanks t
word_then_blanks (w ∷ ws) [] = false
word_then_blanks (w ∷ ws) (b ∷ t) = eqb b w && word_then_blanks ws t

unfoldable pub is_sole : List ℕ → List ℕ → Bool
is_sole word text = word_then_blanks word (after_blanks text)

-- the byte does not stand in the text
unfoldable pub free : ℕ → List ℕ → Bool
free c [] = true
free c (b ∷ t) = elim (eqb b c) [ true ↦ false | false ↦ free c t ]

-- NAME
abbrev pub name_word : List ℕ
name_word = 78 ∷ 65 ∷ 77 ∷ 69 ∷ []

-- COMMENT
abbrev pub comment_word : List ℕ
comment_word = 67 ∷ 79 ∷ 77 ∷ 77 ∷ 69 ∷ 78 ∷ 84 ∷ []

-- TYPE
abbrev pub type_word : List ℕ
type_word = 84 ∷ 89 ∷ 80 ∷ 69 ∷ []

-- TSP
abbrev pub tsp_word : List ℕ
tsp_word = 84 ∷ 83 ∷ 80 ∷ []

-- DIMENSION
abbrev pub dimension_word : List ℕ
dimension_word = 68 ∷ 73 ∷ 77 ∷ 69 ∷ 78 ∷ 83 ∷ 73 ∷ 79 ∷ 78 ∷ []

-- EDGE_WEIGHT_TYPE
abbrev pub weight_type_word : List ℕ
weight_type_word = 69 ∷ 68 ∷ 71 ∷ 69 ∷ 95 ∷ 87 ∷ 69 ∷ 73 ∷ 71 ∷ 72 ∷ 84 ∷ 95 ∷ 84 ∷ 89 ∷ 80 ∷ 69 ∷ []

-- EUC_2D
abbrev pub euc2d_word : List ℕ
euc2d_word = 69 ∷ 85 ∷ 67 ∷ 95 ∷ 50 ∷ 68 ∷ []

-- CEIL_2D
abbrev pub ceil2d_word : List ℕ
ceil2d_word = 67 ∷ 69 ∷ 73 ∷ 76 ∷ 95 ∷ 50 ∷ 68 ∷ []

-- ATT
abbrev pub att_word : List ℕ
att_word = 65 ∷ 84 ∷ 84 ∷ []

-- MAN_2D
abbrev pub man2d_word : List ℕ
man2d_word = 77 ∷ 65 ∷ 78 ∷ 95 ∷ 50 ∷ 68 ∷ []

-- MAX_2D
abbrev pub max2d_word : List ℕ
max2d_word = 77 ∷ 65 ∷ 88 ∷ 95 ∷ 50 ∷ 68 ∷ []

-- EXPLICIT
abbrev pub explicit_word : List ℕ
explicit_word = 69 ∷ 88 ∷ 80 ∷ 76 ∷ 73 ∷ 67 ∷ 73 ∷ 84 ∷ []

-- EDGE_WEIGHT_FORMAT
abbrev pub format_word : List ℕ
format_word = 69 ∷ 68 ∷ 71 ∷ 69 ∷ 95 ∷ 87 ∷ 69 ∷ 73 ∷ 71 ∷ 72 ∷ 84 ∷ 95 ∷ 70 ∷ 79 ∷ 82 ∷ 77 ∷ 65 ∷ 84 ∷ []

-- UPPER_ROW
abbrev pub upper_row_word : List ℕ
upper_row_word = 85 ∷ 80 ∷ 80 ∷ 69 ∷ 82 ∷ 95 ∷ 82 ∷ 79 ∷ 87 ∷ []

-- NODE_COORD_SECTION
abbrev pub node_section_word : List ℕ
node_section_word = 78 ∷ 79 ∷ 68 ∷ 69 ∷ 95 ∷ 67 ∷ 79 ∷ 79 ∷ 82 ∷ 68 ∷ 95 ∷ 83 ∷ 69 ∷ 67 ∷ 84 ∷ 73 ∷ 79 ∷ 78 ∷ []

-- EDGE_WEIGHT_SECTION
abbrev pub weight_section_word : List ℕ
weight_section_word = 69 ∷ 68 ∷ 71 ∷ 69 ∷ 95 ∷ 87 ∷ 69 ∷ 73 ∷ 71 ∷ 72 ∷ 84 ∷ 95 ∷ 83 ∷ 69 ∷ 67 ∷ 84 ∷ 73 ∷ 79 ∷ 78 ∷ []

-- EOF
abbrev pub eof_word : List ℕ
eof_word = 69 ∷ 79 ∷ 70 ∷ []
