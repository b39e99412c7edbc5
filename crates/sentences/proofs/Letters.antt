-- Each kind of reason has its own letter, which its sentence begins with; letter, points and saving make up the reason.
-- Assumes nothing.
use Prim.Native.Nat.{ℕ, ◌≤◌}
use mathlib.Core.Path.{◌≡◌, refl, sym, ◌∙◌, ap}
use mathlib.Core.Bool.{true, false}
use mathlib.Core.List.{List, ◌++◌}
use native.Mathlib.Omega.{arith}
use lib.Dec.{eqb}
use lib.ListN.{get_or, drop}
use Rattle.text.specs.Decimal.{field_text}
use Rattle.text.proofs.DecimalsApart.{first}
use Rattle.sentences.specs.Reason.{Reason, struck, third, loop, exchange, move, three_opt, split, reorder, points_of, saved_of}
use Rattle.sentences.specs.Sentence.{sentence}

-- S, T, L, E, M, C, F and N
unfoldable pub letter : Reason → ℕ
letter (struck p q) = 83
letter (third w) = 84
letter (loop p q r) = 76
letter (exchange p q u v saved) = 69
letter (move w u v saved) = 77
letter (three_opt p q r s saved) = 67
letter (split w) = 70
letter (reorder u vs v saved) = 78

pub letter_some : (r : Reason) → 1 ≤ letter r
unfolding letter
letter_some (struck p q) = omega arith
letter_some (third w) = omega arith
letter_some (loop p q r) = omega arith
letter_some (exchange p q u v saved) = omega arith
letter_some (move w u v saved) = omega arith
letter_some (three_opt p q r s saved) = omega arith
letter_some (split w) = omega arith
letter_some (reorder u vs v saved) = omega arith

pub letter_first : (c x y : ℕ) (r : Reason) (us : List ℕ) → first (sentence c x y r ++ us) ≡ letter r
unfolding sentence field_text letter
letter_first c x y (struck p q) us = refl
letter_first c x y (third w) us = refl
letter_first c x y (loop p q r) us = refl
letter_first c x y (exchange p q u v saved) us = refl
letter_first c x y (move w u v saved) us = refl
letter_first c x y (three_opt p q r s saved) us = refl
letter_first c x y (split w) us = refl
letter_first c x y (reorder u vs v saved) us = refl

-- the reason of a letter, points and a saving
unfoldable pub rebuild : (letter : ℕ) (points : List ℕ) (saved : ℕ) → Reason
rebuild l ps saved =
    elim (eqb l 83) [
      | true ↦ struck (get_or ps 0 0) (get_or ps 1 0)
      | false ↦ elim (eqb l 84) [
        | true ↦ third (get_or ps 0 0)
        | false ↦ elim (eqb l 76) [
          | true ↦ loop (get_or ps 0 0) (get_or ps 1 0) (get_or ps 2 0)
          | false ↦ elim (eqb l 69) [
            | true ↦ exchange (get_or ps 0 0) (get_or ps 1 0) (get_or ps 2 0) (get_or ps 3 0) saved
            | false ↦ elim (eqb l 77) [
              | true ↦ move (get_or ps 0 0) (get_or ps 1 0) (get_or ps 2 0) saved
              | false ↦ elim (eqb l 67) [
                | true ↦ three_opt (get_or ps 0 0) (get_or ps 1 0) (get_or ps 2 0) (get_or ps 3 0) saved
                | false ↦ elim (eqb l 70) [
                  | true ↦ split (get_or ps 0 0)
                  | false ↦ reorder (get_or ps 0 0) (drop 2 ps) (get_or ps 1 0) saved
                ]
              ]
            ]
          ]
        ]
      ]
    ]

rebuilt : (r : Reason) → rebuild (letter r) (points_of r) (saved_of r) ≡ r
unfolding rebuild letter points_of saved_of
rebuilt (struck p q) = refl
rebuilt (third w) = refl
rebuilt (loop p q r) = refl
rebuilt (exchange p q u v saved) = refl
rebuilt (move w u v saved) = refl
rebuilt (three_opt p q r s saved) = refl
rebuilt (split w) = refl
rebuilt (reorder u vs v saved) = refl

-- two sentences that begin the same are of one kind
pub same_kind : (c x y : ℕ) (r : Reason) (us : List ℕ) (d v w : ℕ) (t : Reason) (vs : List ℕ) → sentence c x y r ++ us ≡ sentence d v w t ++ vs
    → rebuild (letter r) (points_of t) (saved_of t) ≡ t
same_kind c x y r us d v w t vs e =
    ap (λ (l : ℕ). rebuild l (points_of t) (saved_of t)) (sym (letter_first c x y r us) ∙ ap first e ∙ letter_first d v w t vs) ∙ rebuilt t
