-- What a call of *list pairs* leaves where it answers a count (01, "Each operation and its refusals"): "x then y for
-- each pair, and the answer is the number of pairs. Places past the list keep their old numbers".
use Rattle.std.specs.Prelude.{ℕ, ◌*◌, ◌≡◌, List, [], ◌∷◌, length, take, drop}
use Rattle.endian.specs.Bytes.{bytes16}
use Rattle.lengths.specs.Edge.{Edge, edge}
use Rattle.argument.specs.Rules.{NamesFeasible}
use Rattle.marks.specs.Mark.{unstruck_in}
use Rattle.sheets.specs.Rules.{rules_where}
use Rattle.enumeration.specs.Find.{numbers_of}

-- the list's bytes, once `list` and now `left`, begin with those of the pairs that are feasible under {ab} at c over
-- low and high (02, Paper 11), where a pending edge counts as open, and nothing past them changed
pub record ListsBetween (n : ℕ) (low high marks : List ℕ) (a b c : ℕ) (list left : List ℕ) (count : ℕ) : Type 0 where
  pub pairs : List Edge
  pub feasible : NamesFeasible (rules_where n low high (unstruck_in n marks)) (edge a b ∷ []) c pairs
  pub counted : count ≡ length pairs
  pub front : take (4 * count) left ≡ bytes16 (numbers_of pairs)
  pub past : drop (4 * count) left ≡ drop (4 * count) list
  pub size : length left ≡ length list

-- over one table
abbrev pub ListsFeasible : (n : ℕ) (table marks : List ℕ) (a b c : ℕ) (list left : List ℕ) (count : ℕ) → Type 0
ListsFeasible n table marks = ListsBetween n table table marks
