-- What the mark of one edge that a line writes does to the marks. Assumes nothing.
use Prim.Native.Nat.{ℕ, zero, suc, ◌+◌, ◌<◌}
use mathlib.Core.Path.{◌≡◌, refl, sym, ◌∙◌, ap}
use mathlib.Core.Bool.{Bool, true, false}
use mathlib.Core.Logic.{⊎_elim, inl, inr}
use mathlib.Core.List.{List, [], ◌∷◌}
use native.Mathlib.Omega.{arith}
use lib.Dec.{eqb}
use lib.ListN.{length, get_or, set}
use borrow.Author.Tests.{eq-eqb, ne_eqb}
use Rattle.lists.proofs.Count.{count_set}
use Rattle.lengths.specs.Edge.{edge, IsEdge, edge_count, place}
use Rattle.lengths.proofs.Edges.{place_below, place_injective, place_symmetric}
use Rattle.sets.specs.EdgeSet.{Joins}
use Rattle.marks.specs.Mark.{mark_at, set_mark, open_mark, struck_mark, opens, open_at, open_up_to, open_count, open_in, mark_in, strike_in}
use Rattle.marks.proofs.Marks.{mark_same, mark_other, open_one, open-mark}
use Rattle.demands.specs.Marked.{differences}

-- nothing differs from itself
pub differences_none : (xs : List ℕ) → differences xs xs ≡ 0
unfolding differences
differences_none [] = refl
differences_none (x ∷ xs) = rw (eq-eqb x x refl, differences) (differences_none xs)

-- a new number at a place where the lists were the same is one more difference
pub differences-set : (xs ys : List ℕ) (i v : ℕ) → length ys ≡ length xs → i < length ys → get_or ys i 0 ≡ get_or xs i 0 → (get_or xs i 0 ≡ v → ⊥) →
    differences xs (set ys i v) ≡ suc (differences xs ys)
unfolding differences
differences-set [] ys i v e h s n = absurd (omega arith)
differences-set (x ∷ xs) [] i v e h s n = absurd (omega arith)
differences-set (x ∷ xs) (y ∷ ys) zero v e h s n = rw (ne_eqb x v n, eq-eqb x y (sym s), differences)
differences-set (x ∷ xs) (y ∷ ys) (suc i) v e h s n = by (eqb x y) (differences-set xs ys i v (omega arith) (omega arith) s n)
  where
    by : (t : Bool) → differences xs (set ys i v) ≡ suc (differences xs ys) →
        ◌≡◌ {A = ℕ} (elim t [ true ↦ differences xs (set ys i v) | false ↦ suc (differences xs (set ys i v)) ]) (suc (elim t [ true ↦ differences xs ys | false ↦ suc (differences xs ys) ]))
    by true z = z
    by false z = ap suc z

-- an edge has one place and one mark, in either order of its points
place_joined : (n a b c d : ℕ) → Joins (edge a b) c d → place n c d ≡ place n a b
place_joined n a b c d (inl e) = rw (sym e.0, sym e.1)
place_joined n a b c d (inr e) = rw (sym e.0, sym e.1) (place_symmetric n b a)

pub open_joined : (n : ℕ) (marks : List ℕ) (a b c d : ℕ) → Joins (edge a b) c d → open_in n marks c d ≡ open_in n marks a b
unfolding open_up_to
open_joined n marks a b c d j = ap (open_at open_mark marks) (place_joined n a b c d j)

-- striking an open edge leaves one open edge less
pub struck_count : (n : ℕ) (marks : List ℕ) (a b : ℕ) → open_in n marks a b ≡ true → open_count marks ≡ 1 + open_count (strike_in n marks a b)
unfolding open_up_to mark_in mark_at set_mark
struck_count n marks a b h =
    count_set open_mark struck_mark 0 (λ e. omega arith) (λ e. omega arith) marks (place n a b) (open-mark marks (place n a b) h)

module _ (mark : ℕ) {n : ℕ} (marks : List ℕ) {a b : ℕ} (ab : IsEdge n a b) where
  -- an edge that gets another mark than 1 is not open to a sheet, in either order of its points
  pub marked_same : (mark ≡ open_mark → ⊥) → length marks ≡ edge_count n → (c d : ℕ) → Joins (edge a b) c d → open_in n (mark_in mark n marks a b) c d ≡ false
  unfolding open_up_to mark_in
  marked_same other whole c d j =
      ap (open_at open_mark (set_mark marks (place n a b) mark)) (place_joined n a b c d j)
      ∙ ap (opens open_mark) (mark_same marks (place n a b) mark (omega (arith, place_below ab)))
      ∙ open_one mark
      ∙ ne_eqb mark open_mark other

  -- any other edge keeps its mark
  pub marked_other : {c d : ℕ} → IsEdge n c d → (Joins (edge a b) c d → ⊥) → open_in n (mark_in mark n marks a b) c d ≡ open_in n marks c d
  unfolding open_up_to mark_in
  marked_other {c} {d} cd other =
      ap (opens open_mark)
      (mark_other marks (place n a b) (place n c d) mark (λ e. other (⊎_elim (λ s. inl (s.0, s.1)) (λ s. inr (s.0, s.1)) (place_injective ab cd e))))
