-- What the judge's verdict says of the lines: an instance, with the largest of its numbers, or the place of the first
-- line that cannot be. Assumes nothing.
use Prim.Native.Nat.{ℕ, ◌+◌, max}
use mathlib.Core.Path.{◌≡◌, refl, sym, ◌∙◌, ap, ap₂}
use mathlib.Core.Bool.{Bool, true, false, ◌&&◌}
use mathlib.Core.List.{List, [], ◌∷◌, ◌++◌}
use native.Mathlib.Omega.{arith}
use native.Mathlib.Decide.{dec_le}
use lib.Dec.{leb}
use borrow.Author.Tests.{le-leb, lt-leb}
use Rattle.std.specs.Prelude.{Option, Some, None}
use Rattle.lists.specs.Test.{all_at_most}
use Rattle.tsplib_lines.specs.Numbers.{counted, counted_all, no_tally, total_of, tallied_of}
use Rattle.tsplib_lines.specs.TextLine.{TextLine, name-line, comment-line, type-line, format-line, node-section, weight-section, eof-line, other-line, dimension_line, weighing-line, number_line, told_of, told_numbers}
use Rattle.tsplib_lines.specs.declared.text_line.Weighing.{Weighing}
use Rattle.tsplib_lines.specs.declared.numbers.Tally.{Tally}
use Rattle.lists.proofs.Bools.{and_yes}
use Rattle.tsplib_lines.proofs.LineReading.{tally_some}
use Rattle.tsplib.specs.Gathering.{numbers_of, gathered}
use Rattle.tsplib.specs.State.{step_of}
use Rattle.tsplib.specs.Judging.{described, fault, judged_from, judged_end, go_on, maximum_of}
use Rattle.tsplib.specs.declared.state.State.{State}
use Rattle.tsplib.specs.declared.state.State.TheVariants.{Specification, Nodes, Weights, Ended}
use Rattle.tsplib.specs.declared.judging.Described.{Described}
use Rattle.tsplib.proofs.LegalSteps.{to_is, faulty}
use Rattle.tsplib.proofs.Exact.{ran, on_to}

-- the largest number of lines, after m
unfoldable pub largest : ℕ → List TextLine → ℕ
largest m [] = m
largest m (l ∷ ls) = largest (max m (maximum_of (told_of l))) ls

pub record Accepted (s : State) (ls : List TextLine) (rest : List ℕ) (n : ℕ) (w : Weighing) (m maximum : ℕ) : Type 0 where
  pub ends : ran s ls ≡ Some (Ended n w)
  pub nothing_behind : rest ≡ []
  pub maximum_is : maximum ≡ largest m ls

fault_instance : {A : Type 0} {k n m : ℕ} {w : Weighing} → fault k ≡ described n w m → A
fault_instance e = cc

end_accepted : (s : State) (k m : ℕ) (rest : List ℕ) {n : ℕ} {w : Weighing} {maximum : ℕ} → judged_end s k m rest ≡ described n w maximum → Accepted s [] rest n w m maximum
unfolding ran largest
end_accepted (Specification h) k m rest e = fault_instance e
end_accepted (Nodes n r j) k m rest e = fault_instance e
end_accepted (Weights n left) k m rest e = fault_instance e
end_accepted (Ended n w) k m [] {n = n'} {w = w'} {maximum = maximum} e =
    let d : ◌≡◌ {A = Described} (record { n = n; weighing = w; maximum = m }) (record { n = n'; weighing = w'; maximum = maximum }) = cc in
    let a : n ≡ n' = ap (λ (x : Described). x.n) d in
    let b : w ≡ w' = ap (λ (x : Described). x.weighing) d in
    let c : m ≡ maximum = ap (λ (x : Described). x.maximum) d in
    record { ends = ap₂ (λ (x : ℕ) (y : Weighing). Some (Ended x y)) a b; nothing_behind = refl; maximum_is = sym c }
end_accepted (Ended n w) k m (b ∷ rest) e = fault_instance e

pub judged_accepted : (ls : List TextLine) (s : State) (k m : ℕ) (rest : List ℕ) (n : ℕ) (w : Weighing) (maximum : ℕ) → judged_from s k m ls rest ≡ described n w maximum → Accepted s ls rest n w m maximum
unfolding judged_from ran largest
judged_accepted [] s k m rest n w maximum e = end_accepted s k m rest e
judged_accepted (l ∷ ls) s k m rest n w maximum e = go (step_of s (told_of l)) refl e (λ t. judged_accepted ls t (k + 1) (max m (maximum_of (told_of l))) rest n w maximum)
  where
    go : (x : Option State) → step_of s (told_of l) ≡ x → go_on x k (λ (t : State). judged_from t (k + 1) (max m (maximum_of (told_of l))) ls rest) ≡ described n w maximum
        → ((t : State) → judged_from t (k + 1) (max m (maximum_of (told_of l))) ls rest ≡ described n w maximum → Accepted t ls rest n w (max m (maximum_of (told_of l))) maximum)
        → Accepted s (l ∷ ls) rest n w m maximum
    go (Some t) f e ih =
        let a = ih t e in
        record { ends = ap (λ (x : Option State). on_to x (λ (t : State). ran t ls)) f ∙ a.ends; nothing_behind = a.nothing_behind; maximum_is = a.maximum_is }
    go None f e ih = fault_instance e

-- lines that are accepted get the verdict
pub accepted_judged : (ls : List TextLine) (s : State) (k m n : ℕ) (w : Weighing) → ran s ls ≡ Some (Ended n w) → judged_from s k m ls [] ≡ described n w (largest m ls)
unfolding judged_from ran largest
accepted_judged [] s k m n w e = ap (λ (x : State). judged_end x k m []) (to_is e)
accepted_judged (l ∷ ls) s k m n w e = go (step_of s (told_of l)) e (λ t. accepted_judged ls t (k + 1) (max m (maximum_of (told_of l))) n w)
  where
    go : (x : Option State) → on_to x (λ (t : State). ran t ls) ≡ Some (Ended n w)
        → ((t : State) → ran t ls ≡ Some (Ended n w) → judged_from t (k + 1) (max m (maximum_of (told_of l))) ls [] ≡ described n w (largest (max m (maximum_of (told_of l))) ls))
        → go_on x k (λ (t : State). judged_from t (k + 1) (max m (maximum_of (told_of l))) ls []) ≡ described n w (largest (max m (maximum_of (told_of l))) ls)
    go (Some t) e ih = ih t e
    go None e ih = faulty e

-- a limit on the largest is a limit on each
leb_max : (a b limit : ℕ) → leb (max a b) limit ≡ leb a limit && leb b limit
leb_max a b limit = elim (dec_le a limit) [
  | yes h ↦
      elim (dec_le b limit) [
        | yes g ↦ rw (le-leb a limit h, le-leb b limit g) (le-leb (max a b) limit (omega arith))
        | no g ↦ rw (le-leb a limit h, lt-leb b limit (omega arith)) (lt-leb (max a b) limit (omega arith))
      ]
  | no h ↦ rw (lt-leb a limit (omega arith)) (lt-leb (max a b) limit (omega arith))
]

and_assoc : (a b c : Bool) → (a && b) && c ≡ a && (b && c)
and_assoc true b c = refl
and_assoc false b c = refl

counted_maximum : (limit : ℕ) (t : Tally) (xs : List ℕ) → leb (counted_all t xs).maximum limit ≡ leb t.maximum limit && all_at_most limit xs
unfolding counted_all all_at_most
counted_maximum limit t [] = sym (and_yes (leb t.maximum limit))
counted_maximum limit t (x ∷ xs) =
    counted_maximum limit (counted t x) xs
    ∙ ap (λ (b : Bool). b && all_at_most limit xs) (leb_max t.maximum x limit)
    ∙ and_assoc (leb t.maximum limit) (leb x limit) (all_at_most limit xs)

no_number : (limit : ℕ) → leb (maximum_of (told_of (number_line []))) limit ≡ true
unfolding tallied_of total_of counted_all
no_number limit = le-leb 0 limit (omega arith)

maximum_of_line : (limit : ℕ) (l : TextLine) → leb (maximum_of (told_of l)) limit ≡ all_at_most limit (numbers_of l)
unfolding numbers_of all_at_most
maximum_of_line limit name-line = le-leb 0 limit (omega arith)
maximum_of_line limit comment-line = le-leb 0 limit (omega arith)
maximum_of_line limit type-line = le-leb 0 limit (omega arith)
maximum_of_line limit format-line = le-leb 0 limit (omega arith)
maximum_of_line limit node-section = le-leb 0 limit (omega arith)
maximum_of_line limit weight-section = le-leb 0 limit (omega arith)
maximum_of_line limit eof-line = le-leb 0 limit (omega arith)
maximum_of_line limit other-line = le-leb 0 limit (omega arith)
maximum_of_line limit (dimension_line n) = le-leb 0 limit (omega arith)
maximum_of_line limit (weighing-line w) = le-leb 0 limit (omega arith)
maximum_of_line limit (number_line []) = no_number limit
maximum_of_line limit (number_line (x ∷ xs)) =
    ap (λ (t : Option Tally). leb (maximum_of (told_numbers t)) limit) (tally_some x xs) ∙ counted_maximum limit no_tally (x ∷ xs) ∙ ap (λ (b : Bool). b && all_at_most limit (x ∷ xs)) (le-leb 0 limit (omega arith))

pub at_most_both : (limit : ℕ) (xs ys : List ℕ) → all_at_most limit (xs ++ ys) ≡ all_at_most limit xs && all_at_most limit ys
unfolding all_at_most
at_most_both limit [] ys = refl
at_most_both limit (x ∷ xs) ys = ap (λ (b : Bool). leb x limit && b) (at_most_both limit xs ys) ∙ sym (and_assoc (leb x limit) (all_at_most limit xs) (all_at_most limit ys))

pub largest_limit : (limit m : ℕ) (ls : List TextLine) → leb (largest m ls) limit ≡ leb m limit && all_at_most limit (gathered 0 ls)
unfolding largest gathered all_at_most
largest_limit limit m [] = sym (and_yes (leb m limit))
largest_limit limit m (l ∷ ls) =
    largest_limit limit (max m (maximum_of (told_of l))) ls
    ∙ ap (λ (b : Bool). b && all_at_most limit (gathered 0 ls)) (leb_max m (maximum_of (told_of l)) limit ∙ ap (λ (b : Bool). leb m limit && b) (maximum_of_line limit l))
    ∙ and_assoc (leb m limit) (all_at_most limit (numbers_of l)) (all_at_most limit (gathered 0 ls))
    ∙ ap (λ (b : Bool). leb m limit && b) (sym (at_most_both limit (numbers_of l) (gathered 0 ls)))
