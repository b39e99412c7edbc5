-- DEMAND 1, its last clause, of the operations that write marks: a call of *mark a sheet*, *ask a sheet* or *mark
-- between* that accepts no line, and one of *confirm* or *withdraw* that is refused, leaves the lent set as it was,
-- byte for byte, well packed or not. Assumes nothing.
use Prim.Native.Nat.{ℕ, ◌<◌}
use mathlib.Core.Path.{◌≡◌, refl, ◌∙◌, ap}
use mathlib.Core.List.{List}
use native.Mathlib.Omega.{arith}
use Rattle.std.specs.Prelude.{Result as Outcome, Ok, Err}
use Rattle.lengths.specs.declared.refusal.Refused.{Refused}
use Rattle.endian.specs.Bytes.{whole16, whole32}
use Rattle.marks.specs.Mark.{struck_mark}
use Rattle.marks.specs.Packed.{marks_of, repacked}
use Rattle.marks.specs.Pending.{resolved_left, resolved_set_answer, resolved_set}
use Rattle.marks.proofs.PackedSets.{repacked_same}
use Rattle.argument.specs.Sheet.{Result}
use Rattle.marking.specs.MarkBetween.{mark_between, mark_between_packed}
use Rattle.admission.specs.Tests.{ready_between, ready}
use Rattle.marking.specs.Mark.{mark_by, mark_packed_by}
use Rattle.revosti.specs.Between.{MarkedBetweenInC, mark_between_in_c}
use Rattle.revosti.specs.Mark.{result_number, MarkedInC, mark_in_c}
use Rattle.revosti.specs.Outcome.{outcome_number}
use Rattle.revosti.specs.Pending.{ResolvedInC}
use Rattle.demands.proofs.SheetLines.{tested_unmarked}

-- MARKING AND ASKING: where no line is accepted, the set is as it was. The marks that it holds are (`tested_unmarked`),
-- and packing these gives the old bytes; a set that is not well packed is refused, and nothing of it is written
pub mark_unchanged : (mark n : ℕ) (table set s : List ℕ) → (mark_packed_by mark n table set s).lines ≡ 0 → (mark_packed_by mark n table set s).marks ≡ set
unfolding mark_packed_by mark_by
mark_unchanged mark n table set s e =
    ap (repacked n set) (tested_unmarked mark table table (marks_of n set) s (ready n table (marks_of n set)) e) ∙ repacked_same n set

pub between_unchanged : (n : ℕ) (low high set s : List ℕ) → (mark_between_packed n low high set s).lines ≡ 0 → (mark_between_packed n low high set s).marks ≡ set
unfolding mark_between_packed mark_between
between_unchanged n low high set s e =
    ap (repacked n set) (tested_unmarked struck_mark low high (marks_of n set) s (ready_between n low high (marks_of n set)) e) ∙ repacked_same n set

-- CONFIRMING AND WITHDRAWING: a refused call leaves the set as it was
pub resolve_unchanged : (mark n : ℕ) (set : List ℕ) (refused : Refused) → resolved_set_answer n set ≡ Err refused → resolved_set mark n set ≡ set
resolve_unchanged mark n set refused e = ap (λ (r : Outcome Unit Refused). repacked n set (resolved_left r mark (marks_of n set))) e ∙ repacked_same n set

-- for C an answer below 2²⁴ has no line accepted, and one other than 0 of *confirm* and *withdraw* is a refusal
no_lines_lem : (r : Result (List ℕ)) → result_number r < 16777216 → r.lines ≡ 0
no_lines_lem r h = omega arith

pub mark_unchanged_in_c : {mark n : ℕ} {table set s : List ℕ} {r : ℕ} {left : List ℕ} → MarkedInC mark n table set s r left → r < 16777216 → left ≡ set
mark_unchanged_in_c {mark} {n} {table} {set} {s} m h =
    m.set-left ∙ mark_unchanged mark n (whole32 table) set (whole16 s) (no_lines_lem (mark_in_c mark n table set s) (omega (arith, m.answered)))

pub between_unchanged_in_c : {n : ℕ} {low high set s : List ℕ} {r : ℕ} {left : List ℕ} → MarkedBetweenInC n low high set s r left → r < 16777216 → left ≡ set
between_unchanged_in_c {n} {low} {high} {set} {s} m h =
    m.set-left ∙ between_unchanged n (whole32 low) (whole32 high) set (whole16 s) (no_lines_lem (mark_between_in_c n low high set s) (omega (arith, m.answered)))

pub resolve_unchanged_in_c : {mark n : ℕ} {set : List ℕ} {r : ℕ} {left : List ℕ} → ResolvedInC mark n set r left → (r ≡ 0 → ⊥) → left ≡ set
resolve_unchanged_in_c {mark} {n} {set} {r} m some = m.set-left ∙ by (resolved_set_answer n set) refl
  where
    by : (a : Outcome Unit Refused) → resolved_set_answer n set ≡ a → resolved_set mark n set ≡ set
    by (Ok done) e = absurd (some (m.answered ∙ ap outcome_number e))
    by (Err r) e = resolve_unchanged mark n set r e
