-- The language has texts of both kinds, and the line that is told of faults of each sort: the judge's verdicts,
-- computed by the definitions. Assumes nothing.
use Prim.Native.Nat.{ℕ}
use mathlib.Core.Path.{◌≡◌, refl, subst}
use mathlib.Core.List.{List, [], ◌∷◌, ◌++◌, map}
use Rattle.tsplib_lines.specs.Words.{colon, free, after_blanks, only_blanks, word_then_blanks, is_sole, name_word, comment_word, type_word, tsp_word, dimension_word, weight_type_word, att_word, man2d_word, explicit_word, format_word, upper_row_word, node_section_word, weight_section_word, eof_word}
use Rattle.tsplib_lines.specs.Numbers.{numbers_from, numbers_in, counted_all, total_of, tallied_of}
use Rattle.tsplib_lines.specs.TextLine.{at_colon, keyword_of, weighing_of, section_of, line_of}
use Rattle.tsplib_lines.specs.declared.text_line.Weighing.TheVariants.{Explicit, Rule}
use Rattle.lengths.specs.Edge.{edge_count}
use Rattle.tsplib.specs.Language.{Tsplib}
use Rattle.tsplib.specs.Gathering.{numbers_of, gathered}
use Rattle.tsplib.specs.Judging.{whole_lines, unfinished, lines_of, described, fault, judged_from, judged}
use Rattle.tsplib.specs.FaultLine.{joined}
use Rattle.tsplib.proofs.TextsExact.{accepted_text}

-- coordinates: NAME : a:b, COMMENT: behind a blank and with no value, TYPE: TSP, DIMENSION :004, MAN_2D, the square
-- with blanks at will
unfoldable pub square : List ℕ
square =
    joined
    ((name_word ++ 32 ∷ colon ∷ 32 ∷ 97 ∷ colon ∷ 98 ∷ [])
    ∷ (32 ∷ comment_word ++ colon ∷ [])
    ∷ (type_word ++ colon ∷ 32 ∷ tsp_word ++ 32 ∷ [])
    ∷ (dimension_word ++ 32 ∷ colon ∷ 48 ∷ 48 ∷ 52 ∷ [])
    ∷ (weight_type_word ++ 32 ∷ colon ∷ 32 ∷ man2d_word)
    ∷ (32 ∷ node_section_word)
    ∷ (49 ∷ 32 ∷ 48 ∷ 32 ∷ 48 ∷ [])
    ∷ (32 ∷ 50 ∷ 32 ∷ 32 ∷ 49 ∷ 48 ∷ 32 ∷ 48 ∷ 32 ∷ [])
    ∷ (51 ∷ 32 ∷ 49 ∷ 48 ∷ 32 ∷ 49 ∷ 48 ∷ [])
    ∷ (52 ∷ 32 ∷ 48 ∷ 32 ∷ 49 ∷ 48 ∷ [])
    ∷ eof_word
    ∷ [])
    []

-- weights: 1 2 3 4 on a line and 5 6 on the next
unfoldable pub lengths : List ℕ
lengths =
    joined
    ((format_word ++ colon ∷ upper_row_word)
    ∷ (dimension_word ++ colon ∷ 52 ∷ [])
    ∷ (weight_type_word ++ colon ∷ explicit_word)
    ∷ weight_section_word
    ∷ (49 ∷ 32 ∷ 50 ∷ 32 ∷ 51 ∷ 32 ∷ 52 ∷ [])
    ∷ (53 ∷ 32 ∷ 54 ∷ [])
    ∷ eof_word
    ∷ [])
    []

-- DIMENSION:1, EDGE_WEIGHT_TYPE:ATT, EDGE_WEIGHT_FORMAT:UPPER_ROW, and the node 1 7 8
abbrev pub one : List ℕ
one = dimension_word ++ colon ∷ 49 ∷ []

abbrev pub att : List ℕ
att = weight_type_word ++ colon ∷ att_word

abbrev pub row : List ℕ
row = format_word ++ colon ∷ upper_row_word

abbrev pub node : List ℕ
node = 49 ∷ 32 ∷ 55 ∷ 32 ∷ 56 ∷ []

-- a text with its line at fault
pub record Faulty : Type 0 where
  pub line : ℕ
  pub text : List ℕ

abbrev pub at : ℕ → List (List ℕ) → List ℕ → Faulty
at line lines rest = record { line = line; text = joined lines rest }

-- no text; a second DIMENSION of the same value; UPPER_ROW with coordinates; an empty line; a tab between numbers; a
-- number of 33 bits; a node out of its place; EOF too early; a blank behind EOF; EOF without its newline
unfoldable pub faults : List Faulty
faults =
    at 1 [] []
    ∷ at 2 (one ∷ one ∷ att ∷ node_section_word ∷ node ∷ eof_word ∷ []) []
    ∷ at 3 (one ∷ att ∷ row ∷ node_section_word ∷ node ∷ eof_word ∷ []) []
    ∷ at 1 ([] ∷ one ∷ att ∷ node_section_word ∷ node ∷ eof_word ∷ []) []
    ∷ at 4 (one ∷ att ∷ node_section_word ∷ (49 ∷ 32 ∷ 55 ∷ 9 ∷ 56 ∷ []) ∷ eof_word ∷ []) []
    ∷ at 4 (one ∷ att ∷ node_section_word ∷ (49 ∷ 32 ∷ 55 ∷ 32 ∷ 52 ∷ 50 ∷ 57 ∷ 52 ∷ 57 ∷ 54 ∷ 55 ∷ 50 ∷ 57 ∷ 54 ∷ []) ∷ eof_word ∷ []) []
    ∷ at 4 (one ∷ att ∷ node_section_word ∷ (50 ∷ 32 ∷ 55 ∷ 32 ∷ 56 ∷ []) ∷ eof_word ∷ []) []
    ∷ at 4 (one ∷ att ∷ node_section_word ∷ eof_word ∷ []) []
    ∷ at 6 (one ∷ att ∷ node_section_word ∷ node ∷ eof_word ∷ []) (32 ∷ [])
    ∷ at 5 (one ∷ att ∷ node_section_word ∷ node ∷ []) eof_word
    ∷ []

pub record Computed : Type 0 where
  pub square_judged : judged square ≡ described 4 (Rule 4) 10
  pub square_data : gathered 1 (lines_of square) ≡ 0 ∷ 0 ∷ 10 ∷ 0 ∷ 10 ∷ 10 ∷ 0 ∷ 10 ∷ []
  pub lengths_judged : judged lengths ≡ described 4 Explicit 6
  pub lengths_data : gathered 0 (lines_of lengths) ≡ 1 ∷ 2 ∷ 3 ∷ 4 ∷ 5 ∷ 6 ∷ []
  pub faults_told : map (λ (f : Faulty). judged f.text) faults ≡ map (λ (f : Faulty). fault f.line) faults

pub computed : Computed
unfolding square lengths faults joined free after_blanks only_blanks word_then_blanks is_sole numbers_from numbers_in counted_all total_of tallied_of at_colon keyword_of weighing_of section_of line_of edge_count numbers_of gathered whole_lines unfinished lines_of judged_from judged
computed = record { square_judged = refl; square_data = refl; lengths_judged = refl; lengths_data = refl; faults_told = refl }

-- texts of the language
pub square_text : Tsplib square 4 (Rule 4) (0 ∷ 0 ∷ 10 ∷ 0 ∷ 10 ∷ 10 ∷ 0 ∷ 10 ∷ [])
square_text = subst (λ (xs : List ℕ). Tsplib square 4 (Rule 4) xs) computed.square_data (accepted_text square computed.square_judged)

pub lengths_text : Tsplib lengths 4 Explicit (1 ∷ 2 ∷ 3 ∷ 4 ∷ 5 ∷ 6 ∷ [])
lengths_text = subst (λ (xs : List ℕ). Tsplib lengths 4 Explicit xs) computed.lengths_data (accepted_text lengths computed.lengths_judged)
