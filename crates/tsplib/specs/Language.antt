-- The language of TSPLIB texts, apart from any reader: lines, and the bytes that they are.
use Rattle.std.specs.Prelude.{ℕ, suc, ◌+◌, ◌≤◌, ◌≡◌, true, List, [], ◌∷◌, ◌++◌, length}
use Rattle.lengths.specs.Edge.{edge_count}
use Rattle.tsplib_lines.specs.Words.{newline, free}
use Rattle.tsplib_lines.specs.TextLine.{TextLine, name-line, comment-line, type-line, format-line, node-section, weight-section}
use Rattle.tsplib_lines.specs.TextLine.{eof-line, other-line, dimension_line, weighing-line, number_line, Reads}
use Rattle.tsplib_lines.specs.declared.text_line.Weighing.{Weighing}
use Rattle.tsplib_lines.specs.declared.text_line.Weighing.TheVariants.{Explicit, Rule}

-- the keyword lines
pub data Keyword : TextLine → Type 0 where
  name : Keyword name-line
  comment : Keyword comment-line
  type_tsp : Keyword type-line
  format : Keyword format-line
  dimension : (n : ℕ) → Keyword (dimension_line n)
  weight_type : (w : Weighing) → Keyword (weighing-line w)

pub data Keywords : List TextLine → Type 0 where
  none : Keywords []
  more : {l : TextLine} {ls : List TextLine} → Keyword l → Keywords ls → Keywords (l ∷ ls)

-- what one line adds to each count: NAME, TYPE and EDGE_WEIGHT_FORMAT lines, the values of DIMENSION and of
-- EDGE_WEIGHT_TYPE
pub record Adds : Type 0 where
  pub names : ℕ
  pub types : ℕ
  pub formats : ℕ
  pub dimensions : List ℕ
  pub weighings : List Weighing

abbrev pub nothing : Adds
nothing = record { names = 0; types = 0; formats = 0; dimensions = []; weighings = [] }

unfoldable pub adds_of : TextLine → Adds
adds_of name-line = record { names = 1; types = 0; formats = 0; dimensions = []; weighings = [] }
adds_of comment-line = nothing
adds_of type-line = record { names = 0; types = 1; formats = 0; dimensions = []; weighings = [] }
adds_of format-line = record { names = 0; types = 0; formats = 1; dimensions = []; weighings = [] }
adds_of node-section = nothing
adds_of weight-section = nothing
adds_of eof-line = nothing
adds_of other-line = nothing
adds_of (dimension_line n) = record { names = 0; types = 0; formats = 0; dimensions = n ∷ []; weighings = [] }
adds_of (weighing-line w) = record { names = 0; types = 0; formats = 0; dimensions = []; weighings = w ∷ [] }
adds_of (number_line xs) = nothing

abbrev pub plus : Adds → Adds → Adds
plus a b = record {
  names = a.names + b.names;
  types = a.types + b.types;
  formats = a.formats + b.formats;
  dimensions = a.dimensions ++ b.dimensions;
  weighings = a.weighings ++ b.weighings;
}

unfoldable pub all_add : List TextLine → Adds
all_add [] = nothing
all_add (l ∷ ls) = plus (adds_of l) (all_add ls)

-- "EXPLICIT alone has EDGE_WEIGHT_FORMAT too"
abbrev pub formats_for : Weighing → ℕ
formats_for Explicit = 1
formats_for (Rule r) = 0

-- "only COMMENT may repeat": NAME and TYPE come at most once, DIMENSION and EDGE_WEIGHT_TYPE exactly once
pub record Counts (a : Adds) (n : ℕ) (w : Weighing) : Type 0 where
  pub name_once : a.names ≤ 1
  pub type_once : a.types ≤ 1
  pub dimension : a.dimensions ≡ n ∷ []
  pub weight_type : a.weighings ≡ w ∷ []
  pub format : a.formats ≡ formats_for w

-- the lines before the section, "order is free"
pub record Specification (ls : List TextLine) (n : ℕ) (w : Weighing) : Type 0 where
  pub keywords : Keywords ls
  pub counts : Counts (all_add ls) n w

-- "Node lines must come in order 1 to n with whole coordinates": the lines of the nodes after the first k, and their
-- coordinates
pub data Nodes : ℕ → ℕ → List TextLine → List ℕ → Type 0 where
  none : {n : ℕ} → Nodes n n [] []
  node : {k n : ℕ} {ls : List TextLine} {cs : List ℕ} (x y : ℕ) → Nodes (suc k) n ls cs
      → Nodes k n (number_line (suc k ∷ x ∷ y ∷ []) ∷ ls) (x ∷ y ∷ cs)

-- "weights may break over lines": so many weights, one or more to a line
pub data Weights : ℕ → List TextLine → List ℕ → Type 0 where
  none : Weights 0 [] []
  some : {ls : List TextLine} {ws : List ℕ} (k x : ℕ) (xs : List ℕ) → Weights k ls ws
      → Weights (length (x ∷ xs) + k) (number_line (x ∷ xs) ∷ ls) ((x ∷ xs) ++ ws)

-- the lines of an instance: its n, how it is weighed, and its coordinates or weights
pub data InstanceLines : List TextLine → ℕ → Weighing → List ℕ → Type 0 where
  coordinates : {hs ls : List TextLine} {n r : ℕ} {cs : List ℕ} → Specification hs n (Rule r) → Nodes 0 n ls cs
      → InstanceLines (hs ++ node-section ∷ (ls ++ eof-line ∷ [])) n (Rule r) cs
  weights : {hs ls : List TextLine} {n : ℕ} {ws : List ℕ} → Specification hs n Explicit → Weights (edge_count n) ls ws
      → InstanceLines (hs ++ weight-section ∷ (ls ++ eof-line ∷ [])) n Explicit ws

-- the bytes of lines: "each ends in a newline"
pub data Text : List TextLine → List ℕ → Type 0 where
  none : Text [] []
  line : {l : TextLine} {ls : List TextLine} {bytes rest : List ℕ} → free newline bytes ≡ true → Reads bytes l → Text ls rest
      → Text (l ∷ ls) (bytes ++ newline ∷ rest)

-- a text of the language: its n, how it is weighed, and its coordinates or weights
pub record Tsplib (text : List ℕ) (n : ℕ) (w : Weighing) (xs : List ℕ) : Type 0 where
  pub lines : List TextLine
  pub written : Text lines text
  pub says : InstanceLines lines n w xs

-- the text is outside the language
abbrev pub Outside : List ℕ → Type 0
Outside text = (n : ℕ) (w : Weighing) (xs : List ℕ) → Tsplib text n w xs → ⊥
