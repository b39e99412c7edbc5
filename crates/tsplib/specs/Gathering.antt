-- The numbers of a text: of each line of numbers all, or all but the first.
use Rattle.std.specs.Prelude.{ℕ, List, [], ◌∷◌, ◌++◌, drop}
use Rattle.tsplib_lines.specs.TextLine.{TextLine, name-line, comment-line, type-line, format-line, node-section, weight-section}
use Rattle.tsplib_lines.specs.TextLine.{eof-line, other-line, dimension_line, weighing-line, number_line}

unfoldable pub numbers_of : TextLine → List ℕ
numbers_of name-line = []
numbers_of comment-line = []
numbers_of type-line = []
numbers_of format-line = []
numbers_of node-section = []
numbers_of weight-section = []
numbers_of eof-line = []
numbers_of other-line = []
numbers_of (dimension_line n) = []
numbers_of (weighing-line w) = []
numbers_of (number_line xs) = xs

-- the numbers of all lines, without the first `skip` of each
unfoldable pub gathered : ℕ → List TextLine → List ℕ
gathered skip [] = []
gathered skip (l ∷ ls) = drop skip (numbers_of l) ++ gathered skip ls
