-- A line of the language: a keyword with its value, a section's name, EOF, numbers, or none of these.
use Rattle.std.specs.Prelude.{ℕ, Bool, true, false, List, [], ◌∷◌, ◌++◌, eqb, Option, Some, None}
use denote.Ref.{Bor}
use Rattle.tsplib_lines.specs.Words.{colon, Sole, is_sole, name_word, comment_word, type_word, tsp_word, dimension_word}
use Rattle.tsplib_lines.specs.Words.{weight_type_word, euc2d_word, ceil2d_word, att_word, man2d_word, max2d_word, explicit_word}
use Rattle.tsplib_lines.specs.Words.{format_word, upper_row_word, node_section_word, weight_section_word, eof_word}
use Rattle.tsplib_lines.specs.Numbers.{NumberText, numbers_in, no_tally, tallied_of}
use Rattle.tsplib_lines.specs.declared.numbers.Tally.{Tally}
use Rattle.tsplib_lines.specs.declared.text_line.Weighing.{Weighing}
use Rattle.tsplib_lines.specs.declared.text_line.Weighing.TheVariants as weighing
use Rattle.tsplib_lines.specs.declared.text_line.Keyword.{Keyword}
use Rattle.tsplib_lines.specs.declared.text_line.Keyword.TheVariants as keyword
use Rattle.tsplib_lines.specs.declared.text_line.TalliedLine as code
use Rattle.tsplib_lines.specs.declared.text_line.TalliedLine.TheVariants as told

-- a line's meaning
pub data TextLine : Type 0 where
  name-line comment-line type-line format-line node-section weight-section eof-line other-line : TextLine
  dimension_line : ℕ → TextLine
  weighing-line : Weighing → TextLine
  number_line : List ℕ → TextLine

-- how EDGE_WEIGHT_TYPE names a way of weighing: EXPLICIT, or rule 1 to 5 of *measure*
pub data Names : List ℕ → Weighing → Type 0 where
  explicit : Names explicit_word weighing.Explicit
  euc2d : Names euc2d_word (weighing.Rule 1)
  ceil2d : Names ceil2d_word (weighing.Rule 2)
  att : Names att_word (weighing.Rule 3)
  man2d : Names man2d_word (weighing.Rule 4)
  max2d : Names max2d_word (weighing.Rule 5)

-- what a line's bytes are: "A keyword line is keyword, colon, value, with blanks between at will"; "Section names and
-- EOF stand by themselves"
pub data Reads : List ℕ → TextLine → Type 0 where
  name : {k : List ℕ} → Sole name_word k → (v : List ℕ) → Reads (k ++ colon ∷ v) name-line
  comment : {k : List ℕ} → Sole comment_word k → (v : List ℕ) → Reads (k ++ colon ∷ v) comment-line
  type_tsp : {k v : List ℕ} → Sole type_word k → Sole tsp_word v → Reads (k ++ colon ∷ v) type-line
  dimension : {k v : List ℕ} {n : ℕ} → Sole dimension_word k → NumberText v (n ∷ []) → Reads (k ++ colon ∷ v) (dimension_line n)
  weight_type : {k v w : List ℕ} {m : Weighing} → Sole weight_type_word k → Names w m → Sole w v → Reads (k ++ colon ∷ v) (weighing-line m)
  format : {k v : List ℕ} → Sole format_word k → Sole upper_row_word v → Reads (k ++ colon ∷ v) format-line
  nodes : {t : List ℕ} → Sole node_section_word t → Reads t node-section
  weights : {t : List ℕ} → Sole weight_section_word t → Reads t weight-section
  eof : {t : List ℕ} → Sole eof_word t → Reads t eof-line
  numbers : {t xs : List ℕ} → NumberText t xs → Reads t (number_line xs)

-- the line that bytes are, computed: numbers; else a keyword line by its first colon; else a word by itself
pub data Parts : Type 0 where
  whole : Parts
  parts : List ℕ → List ℕ → Parts

abbrev pub with_byte : ℕ → Parts → Parts
with_byte b whole = whole
with_byte b (parts k v) = parts (b ∷ k) v

unfoldable pub at_colon : List ℕ → Parts
at_colon [] = whole
at_colon (b ∷ t) = elim (eqb b colon) [ true ↦ parts [] t | false ↦ with_byte b (at_colon t) ]

abbrev pub when : {A : Type 0} → Bool → A → A → A
when true this rest = this
when false this rest = rest

unfoldable pub keyword_of : List ℕ → Option Keyword
keyword_of k =
    when (is_sole name_word k) (Some keyword.Name)
    (when (is_sole comment_word k) (Some keyword.Comment)
    (when (is_sole type_word k) (Some keyword.Type)
    (when (is_sole dimension_word k) (Some keyword.Dimension)
    (when (is_sole weight_type_word k) (Some keyword.WeightType)
    (when (is_sole format_word k) (Some keyword.WeightFormat) None)))))

unfoldable pub weighing_of : List ℕ → Option Weighing
weighing_of v =
    when (is_sole explicit_word v) (Some weighing.Explicit)
    (when (is_sole euc2d_word v) (Some (weighing.Rule 1))
    (when (is_sole ceil2d_word v) (Some (weighing.Rule 2))
    (when (is_sole att_word v) (Some (weighing.Rule 3))
    (when (is_sole man2d_word v) (Some (weighing.Rule 4))
    (when (is_sole max2d_word v) (Some (weighing.Rule 5)) None)))))

unfoldable pub section_of : List ℕ → TextLine
section_of t =
    when (is_sole node_section_word t) node-section
    (when (is_sole weight_section_word t) weight-section
    (when (is_sole eof_word t) eof-line other-line))

abbrev pub dimension_of : Option (List ℕ) → TextLine
dimension_of None = other-line
dimension_of (Some []) = other-line
dimension_of (Some (n ∷ [])) = dimension_line n
dimension_of (Some (n ∷ m ∷ ns)) = other-line

abbrev pub weighing_line : Option Weighing → TextLine
weighing_line (Some m) = weighing-line m
weighing_line None = other-line

abbrev pub valued : Keyword → List ℕ → TextLine
valued keyword.Name v = name-line
valued keyword.Comment v = comment-line
valued keyword.Type v = when (is_sole tsp_word v) type-line other-line
valued keyword.Dimension v = dimension_of (numbers_in v)
valued keyword.WeightType v = weighing_line (weighing_of v)
valued keyword.WeightFormat v = when (is_sole upper_row_word v) format-line other-line

abbrev pub valued_as : Option Keyword → List ℕ → TextLine
valued_as (Some key) v = valued key v
valued_as None v = other-line

abbrev pub parts_line : Parts → List ℕ → TextLine
parts_line whole t = section_of t
parts_line (parts k v) t = valued_as (keyword_of k) v

abbrev pub numbers_or : Option (List ℕ) → TextLine → TextLine
numbers_or None rest = rest
numbers_or (Some []) rest = rest
numbers_or (Some (x ∷ xs)) rest = number_line (x ∷ xs)

unfoldable pub line_of : List ℕ → TextLine
line_of t = numbers_or (numbers_in t) (parts_line (at_colon t) t)

-- what the code keeps of a line: of numbers how many, the first and the largest
abbrev pub told_numbers : Option Tally → code.TalliedLine
told_numbers (Some t) = told.Numbers t
told_numbers None = told.Other

abbrev pub told_of : TextLine → code.TalliedLine
told_of name-line = told.Name
told_of comment-line = told.Comment
told_of type-line = told.Type
told_of format-line = told.WeightFormat
told_of node-section = told.NodeSection
told_of weight-section = told.WeightSection
told_of eof-line = told.Eof
told_of other-line = told.Other
told_of (dimension_line n) = told.Dimension n
told_of (weighing-line m) = told.WeightType m
told_of (number_line xs) = told_numbers (tallied_of no_tally (Some xs))

-- the line where the value is the one word that it may be
abbrev pub only_as : List ℕ → List ℕ → code.TalliedLine → code.TalliedLine
only_as word value line = when (is_sole word value) line told.Other

-- what the first of some words stands for that the text is by itself
unfoldable pub named : {A : Type 0} → List ℕ → List (Bor (List ℕ) × A) → Option A
named t [] = None
named t (p ∷ ps) = when (is_sole p.0.now t) (Some p.1) (named t ps)
