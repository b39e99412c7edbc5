-- The program's lines (01, "Layers and program"), and their words in ASCII.
use Rattle.std.specs.Prelude.{ℕ, suc, Bool, true, false, List, [], ◌∷◌, ◌++◌}
use Rattle.lengths.specs.Edge.{Edge, edge, edges, edge_count}
use Rattle.marks.specs.Mark.{open_mark, open_at, open_count}
use Rattle.text.specs.Decimal.{field_text}
use Rattle.text.specs.Words.{open_word, struck_word, newline}

-- `points `, ` edges `, a space, `verdict ` and ` record `
abbrev pub points_word : List ℕ
points_word = 112 ∷ 111 ∷ 105 ∷ 110 ∷ 116 ∷ 115 ∷ 32 ∷ []

abbrev pub edges_word : List ℕ
edges_word = 32 ∷ 101 ∷ 100 ∷ 103 ∷ 101 ∷ 115 ∷ 32 ∷ []

abbrev pub space : List ℕ
space = 32 ∷ []

abbrev pub verdict_word : List ℕ
verdict_word = 118 ∷ 101 ∷ 114 ∷ 100 ∷ 105 ∷ 99 ∷ 116 ∷ 32 ∷ []

abbrev pub record_word : List ℕ
record_word = 32 ∷ 114 ∷ 101 ∷ 99 ∷ 111 ∷ 114 ∷ 100 ∷ 32 ∷ []

-- "Line one: n and the edge count"
unfoldable pub points_line : ℕ → List ℕ
points_line n = field_text points_word n ++ field_text edges_word (edge_count n) ++ newline

-- a strike, "lower point first"
unfoldable pub struck_line : ℕ → ℕ → List ℕ
struck_line a b = field_text (struck_word ++ space) a ++ field_text space b ++ newline

-- the line of an edge: none if it is open
unfoldable pub mark_line : Bool → ℕ → ℕ → List ℕ
mark_line is_open a b = elim is_open [ true ↦ [] | false ↦ struck_line a b ]

-- the lines of edges, the first of which has its mark at the place i
unfoldable pub mark_lines : List Edge → List ℕ → ℕ → List ℕ
mark_lines [] marks i = []
mark_lines (edge a b ∷ es) marks i = mark_line (open_at open_mark marks i) a b ++ mark_lines es marks (suc i)

-- "One line an accepted strike, .. in edge order"
unfoldable pub struck_lines : ℕ → List ℕ → List ℕ
struck_lines n marks = mark_lines (edges n) marks 0

-- "Last: refusal number or 0, its record or 0, edges open"
unfoldable pub verdict_line : ℕ → ℕ → ℕ → List ℕ
verdict_line number rec opens =
    field_text verdict_word number ++ field_text record_word rec ++ field_text (space ++ open_word ++ space) opens ++ newline

-- "only the last line appears, with open 0"
unfoldable pub last_line : ℕ → List ℕ
last_line number = verdict_line number 0 0

-- "all lines appear"
unfoldable pub all_lines : ℕ → ℕ → ℕ → List ℕ → List ℕ
all_lines n number rec marks = points_line n ++ struck_lines n marks ++ verdict_line number rec (open_count marks)
