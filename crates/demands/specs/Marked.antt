-- What a call of *mark a sheet* or *ask a sheet* answers over a packed set and for C, and what it changes (01, "Each
-- operation and its refusals": "the number of lines accepted in this call"; "An accepted line marks its edge struck").
-- Which lines it accepts, and where it stops, is `Answers` (argument/specs/Answers.antt).
use Rattle.std.specs.Prelude.{ℕ, suc, ◌≡◌, true, false, ◌⊎◌, ◌↔◌, List, [], ◌∷◌, Ok, eqb, length}
use Rattle.lengths.specs.Edge.{Edge, edge, IsEdge}
use Rattle.sets.specs.EdgeSet.{Has}
use Rattle.marks.specs.Mark.{mark_at, open_mark, open_in}
use Rattle.marks.specs.Packed.{packed}
use Rattle.argument.specs.Line.{Struck, strikes}
use Rattle.argument.specs.Rules.{NamesFeasible, Reached}
use Rattle.argument.specs.Sheet.{Marking, Result, start}
use Rattle.argument.specs.Answers.{Answers}
use Rattle.sheets.specs.Rules.{rules_between}
use Rattle.sheets.specs.Sheet.{whole_sheet}
use Rattle.admission.specs.Tests.{ready_between, ready}
use Rattle.marking.specs.Mark.{packed_result}
use Rattle.revosti.specs.Mark.{result_number}

-- the call passes tests 1, 2, 5, 6 and 20, and test 7
pub record Passes (n : ℕ) (table marks sheet : List ℕ) : Type 0 where
  pub points : ready n table marks ≡ Ok n
  pub whole : whole_sheet (length sheet) ≡ true

-- the call over two tables passes tests 1, 2, 5, 25, 6 and 20, and test 7 (02, Paper 11)
pub record PassesBetween (n : ℕ) (low high marks sheet : List ℕ) : Type 0 where
  pub points : ready_between n low high marks ≡ Ok n
  pub whole : whole_sheet (length sheet) ≡ true

-- the edges that lines strike
abbrev pub struck_edges : List Struck → List Edge
struck_edges [] = []
struck_edges (strikes a b next high ∷ xs) = edge a b ∷ struck_edges xs

-- at how many places two lists differ
unfoldable pub differences : List ℕ → List ℕ → ℕ
differences [] ys = 0
differences (x ∷ xs) [] = 0
differences (x ∷ xs) (y ∷ ys) = elim (eqb x y) [ true ↦ differences xs ys | false ↦ suc (differences xs ys) ]

-- from `marks` to `left` so many marks changed, each from open to the mark `mark`, struck or pending: those of these
-- edges, and no other
pub record Changes (mark n : ℕ) (marks left : List ℕ) (struck : List Edge) (lines : ℕ) : Type 0 where
  pub size : length left ≡ length marks
  pub each : (i : ℕ) → (mark_at left i ≡ mark_at marks i) ⊎ ((mark_at marks i ≡ open_mark) × (mark_at left i ≡ mark))
  pub counted : differences marks left ≡ lines
  pub exactly : (a b : ℕ) → IsEdge n a b → Has struck a b ↔ ((open_in n marks a b ≡ true) × (open_in n left a b ≡ false))

-- what a call answers and leaves over a packed set that holds `marks`: an answer of its lines (`Answers`), and the
-- packed set of its marks
pub record AnswersPacked (𝓜 : Marking (List ℕ)) (s marks : List ℕ) (q : Result (List ℕ)) : Type 0 where
  pub result : Result (List ℕ)
  pub answers : Answers 𝓜 s (start marks) result
  pub packs : q ≡ packed_result result

-- and for C: the number of that answer, and the packed set that is left
pub record AnswersInC (𝓜 : Marking (List ℕ)) (s marks : List ℕ) (r : ℕ) (left : List ℕ) : Type 0 where
  pub result : Result (List ℕ)
  pub answers : Answers 𝓜 s (start marks) result
  pub numbered : r ≡ result_number result
  pub set-left : left ≡ packed result.marks

-- lists of pairs, for the marks that a line finds, K and the split point, which name exactly the feasible pairs,
-- rising, on every set that an argument comes to
abbrev pub ListsExactly : ℕ → (out put : List ℕ) → (lists : List ℕ → List Edge → ℕ → List Edge) → Type 0
ListsExactly n out put lists =
    (m : List ℕ) (K : List Edge) (c : ℕ) → Reached (rules_between n out put m) K
    → NamesFeasible (rules_between n out put m) K c (lists m K c)
