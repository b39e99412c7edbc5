-- The judge of a text, line by line: the verdict on all is that on what is left, from the state after what is passed.
-- Assumes nothing.
use Prim.Native.Nat.{ℕ, ◌+◌, ◌*◌, ◌≤◌, ◌<◌, max}
use mathlib.Core.Path.{◌≡◌, refl, sym, ◌∙◌, ap, ap₂}
use mathlib.Core.Bool.{true}
use mathlib.Core.List.{List, []}
use native.Mathlib.Omega.{arith}
use native.Mathlib.Decide.{dec_lt}
use lib.ListN.{length, take, drop, length-drop}
use Rattle.std.specs.Prelude.{Option, Some, None, Result, Ok, Err, ok_or, position, ◌==◌}
use Rattle.tsplib_lines.specs.Words.{newline, free, is_sole, word_then_blanks, after_blanks}
use Rattle.tsplib_lines.specs.Numbers.{numbers_in, numbers_from}
use Rattle.tsplib_lines.specs.TextLine.{line_of, told_of, at_colon, section_of}
use Rattle.tsplib.specs.State.{no_lines, step_of}
use Rattle.tsplib.specs.Judging.{lines_of, unfinished, fault, judged, judged_from, judged_end, go_on, maximum_of}
use Rattle.tsplib.specs.declared.state.State.{State}
use Rattle.tsplib.specs.declared.state.State.TheVariants.{Specification, Nodes, Weights, Ended}
use Rattle.tsplib.specs.declared.judging.Described.{Described}
use Rattle.tsplib.specs.declared.judging.Fault.{Fault}
use Rattle.tsplib.proofs.LegalSteps.{faulty}
use Rattle.tsplib.proofs.TextLines.{lines_next, lines_none, rest_next, rest_none, next_line}
use Rattle.tsplib_lines.proofs.SoleWords.{FoundAt, free_all}

-- the loop over the lines
pub record Judging (text : List ℕ) (s : State) (k m : ℕ) (rest : List ℕ) : Type 0 where
  pub few : 2 * k + length rest ≤ length text
  pub same : judged text ≡ judged_from s k m (lines_of rest) (unfinished rest)

pub judging_start : (text : List ℕ) → Judging text no_lines 0 0 text
unfolding judged
judging_start text = record { few = omega arith; same = refl }

-- what a step's `ok_or` says of the step
pub step_none : (o : Option State) {f g : Fault} → ok_or o f ≡ Err g → (o ≡ None) × (g ≡ f)
step_none None e = (refl, cc)
step_none (Some t) e = cc

pub step_some : (o : Option State) (f : Fault) {t : State} → ok_or o f ≡ Ok t → o ≡ Some t
step_some None f e = cc
step_some (Some s) f e = ap {B = Option State} Some (cc)

-- no state takes an empty line
empty_line : (s : State) → step_of s (told_of (line_of [])) ≡ None
unfolding line_of at_colon section_of is_sole word_then_blanks after_blanks numbers_in numbers_from
empty_line (Specification h) = refl
empty_line (Nodes n r k) = refl
empty_line (Weights n left) = refl
empty_line (Ended n w) = refl

module _ {text : List ℕ} {s : State} {k m : ℕ} {rest : List ℕ} (j : Judging text s k m rest) where
  pub judging_ends : {x : Result Described Fault} → position (λ b. b == newline) rest ≡ None → x ≡ judged_end s k m rest → x ≡ judged text
  unfolding judged_from
  judging_ends e f =
      let free-rest : free newline rest ≡ true = free_all newline rest e in
      f ∙ sym (j.same ∙ ap₂ (judged_from s k m) (lines_none rest free-rest) (rest_none rest free-rest))

  module _ {r : ℕ} (f : FoundAt newline rest r) where
    after : Option State → Result Described Fault
    after x =
        go_on x k
        (λ (t : State). judged_from t (k + 1) (max m (maximum_of (told_of (line_of (take r rest))))) (lines_of (drop (r + 1) rest)) (unfinished (drop (r + 1) rest)))

    next : judged text ≡ after (step_of s (told_of (line_of (take r rest))))
    unfolding judged_from after
    next =
        j.same
        ∙ ap (λ (t : List ℕ). judged_from s k m (lines_of t) (unfinished t)) (next_line rest f)
        ∙ ap₂ (judged_from s k m) (lines_next (take r rest) (drop (r + 1) rest) f.front) (rest_next (take r rest) (drop (r + 1) rest))

    pub judging_fault : step_of s (told_of (line_of (take r rest))) ≡ None → fault (k + 1) ≡ judged text
    unfolding after
    judging_fault e = sym (next ∙ ap after e)

    longer : {t : State} → step_of s (told_of (line_of (take r rest))) ≡ Some t → 0 < r
    longer {t} e = elim (dec_lt 0 r) [
      | yes g ↦ g
      | no g ↦
          let z : r ≡ 0 = omega arith in
          let q : None ≡ Some t = sym (empty_line s) ∙ ap (λ (i : ℕ). step_of s (told_of (line_of (take i rest)))) (sym z) ∙ e in
          faulty q
    ]

    pub judging_on : {t : State} {m' : ℕ} → step_of s (told_of (line_of (take r rest))) ≡ Some t → m' ≡ max m (maximum_of (told_of (line_of (take r rest))))
        → Judging text t (k + 1) m' (drop (r + 1) rest)
    unfolding after
    judging_on {t} {m'} e g = record {
      few = omega (arith, j.few, longer e, f.inside, length-drop (r + 1) rest);
      same = next ∙ ap after e ∙ ap (λ (y : ℕ). judged_from t (k + 1) y (lines_of (drop (r + 1) rest)) (unfinished (drop (r + 1) rest))) (sym g);
    }
