-- Asking against marking (02, Paper 3), of packed sets, and of the functions for C: a set that is not well packed stays
-- as it is, and of one that is `Asked` says it of the marks that it holds. Assumes nothing.
use Prim.Native.Nat.{ℕ, ◌+◌, ◌*◌}
use mathlib.Core.Path.{◌≡◌, refl, sym, ◌∙◌, ap, ap₂}
use mathlib.Core.Bool.{Bool, true, false}
use mathlib.Core.List.{List}
use native.Mathlib.Omega.{arith}
use Rattle.std.specs.Prelude.{Result, Ok, Err}
use Rattle.lengths.specs.declared.refusal.Refusal.{Refusal}
use Rattle.lengths.specs.declared.refusal.Refusal.TheVariants as refusal
use Rattle.lengths.specs.declared.refusal.Refused.{Refused}
use Rattle.lengths.specs.Refusal.{refuse}
use Rattle.lengths.specs.Instance.{in_range}
use Rattle.lengths.proofs.Instances.{in-range}
use Rattle.endian.specs.Bytes.{whole16, whole32}
use Rattle.marks.specs.Mark.{struck_mark, open_mark, pending_mark, none_pending}
use Rattle.marks.specs.Packed.{packed, well_packed, marks_of, repacked}
use Rattle.marks.specs.Pending.{resolved_answer, resolved_left, resolved_set}
use Rattle.marks.proofs.PackedSets.{packed_marks, repacked_same}
use Rattle.marks.proofs.PackedMarks.{held_set}
use Rattle.marking.proofs.PackedSheets.{mark_byte_set}
use Rattle.marking.specs.Mark.{mark_tested, mark_by, mark_packed_by, ask_sheet, mark_packed, ask_packed}
use Rattle.admission.specs.Tests.{until_pending, ready}
use Rattle.revosti.specs.Mark.{result_number, verdict_number, mark_in_c}
use Rattle.demands.proofs.Asked.{ask_verdict, ask_lines, ask_confirm, ask_withdraw}
use Rattle.demands.proofs.OnPacked.{out_of_limits, resolve_on_packed}

module _ (n : ℕ) (table set s : List ℕ) where
  pub ask_verdict_packed : (ask_packed n table set s).verdict ≡ (mark_packed n table set s).verdict
  unfolding mark_packed_by
  ask_verdict_packed = ask_verdict n table (marks_of n set) s

  pub ask_lines_packed : (ask_packed n table set s).lines ≡ (mark_packed n table set s).lines
  unfolding mark_packed_by
  ask_lines_packed = ask_lines n table (marks_of n set) s

  -- out of the limits nothing changes
  out_mark : (mark : ℕ) → in_range n ≡ false → (mark_packed_by mark n table set s).marks ≡ set
  unfolding mark_packed_by mark_by ready
  out_mark mark h =
      ap (λ (t : Result ℕ Refusal). repacked n set (mark_tested mark (until_pending t (marks_of n set)) table table (marks_of n set) s).marks) (out_of_limits n table (marks_of n set) h)
      ∙ repacked_same n set

  out_resolve : (mark : ℕ) → in_range n ≡ false → resolved_set mark n set ≡ set
  unfolding resolved_answer
  out_resolve mark h =
      let r : resolved_answer n (marks_of n set) ≡ refuse refusal.Points = rw h in
      ap (λ (t : Result Unit Refused). repacked n set (resolved_left t mark (marks_of n set))) r ∙ repacked_same n set

  -- nor does a set that is not well packed
  ill_mark : (mark : ℕ) → well_packed n set ≡ false → (mark_packed_by mark n table set s).marks ≡ set
  unfolding mark_packed_by repacked
  ill_mark mark h = rw h

  ill_resolve : (mark : ℕ) → well_packed n set ≡ false → resolved_set mark n set ≡ set
  unfolding repacked
  ill_resolve mark h = rw h

  module _ (range : in_range n ≡ true) (w : well_packed n set ≡ true) where
    well_mark : (mark : ℕ) → (mark_packed_by mark n table set s).marks ≡ packed (mark_by mark n table (marks_of n set) s).marks
    unfolding mark_packed_by repacked
    well_mark mark = rw w

    -- the set that asking leaves, resolved
    well_resolve : (mark : ℕ) → resolved_set mark n (ask_packed n table set s).marks
        ≡ packed (resolved_left (resolved_answer n (ask_sheet n table (marks_of n set) s).marks) mark (ask_sheet n table (marks_of n set) s).marks)
    well_resolve mark =
        ap (resolved_set mark n) (well_mark pending_mark)
        ∙ resolve_on_packed (in-range n range).0 (mark_byte_set pending_mark n table s (omega arith) (held_set n set w)) n mark

  -- what holds where nothing changes and where the set is well packed holds of every set
  resolved_by : (mark : ℕ) {left : List ℕ} → (in_range n ≡ false → left ≡ set) → (well_packed n set ≡ false → left ≡ set) →
      (in_range n ≡ true → well_packed n set ≡ true → resolved_set mark n (ask_packed n table set s).marks ≡ left) → resolved_set mark n (ask_packed n table set s).marks ≡ left
  resolved_by mark {left} out ill well = by (in_range n) refl (well_packed n set) refl
    where
      by : (r : Bool) → in_range n ≡ r → (p : Bool) → well_packed n set ≡ p → resolved_set mark n (ask_packed n table set s).marks ≡ left
      by false h p q = ap (resolved_set mark n) (out_mark pending_mark h) ∙ out_resolve mark h ∙ sym (out h)
      by true h false q = ap (resolved_set mark n) (ill_mark pending_mark q) ∙ ill_resolve mark q ∙ sym (ill q)
      by true h true q = well h q

  -- ASK-CONFIRM of packed sets
  pub ask_confirm_packed : none_pending (marks_of n set) ≡ true → resolved_set struck_mark n (ask_packed n table set s).marks ≡ (mark_packed n table set s).marks
  ask_confirm_packed none =
      resolved_by struck_mark (out_mark struck_mark) (ill_mark struck_mark)
      (λ r w. well_resolve r w struck_mark ∙ ap packed (ask_confirm n table (marks_of n set) s none) ∙ sym (well_mark r w struck_mark))

  -- ASK-WITHDRAW of packed sets
  pub ask_withdraw_packed : none_pending (marks_of n set) ≡ true → resolved_set open_mark n (ask_packed n table set s).marks ≡ set
  ask_withdraw_packed none =
      resolved_by open_mark (λ h. refl) (λ h. refl)
      (λ r w. well_resolve r w open_mark ∙ ap packed (ask_withdraw n table (marks_of n set) s none) ∙ packed_marks n set w)

-- the same of the functions for C
module _ (n : ℕ) (table set s : List ℕ) where
  pub ask_verdict_in_c : result_number (mark_in_c pending_mark n table set s) ≡ result_number (mark_in_c struck_mark n table set s)
  ask_verdict_in_c =
      ap₂ (λ (v l : ℕ). v + 16777216 * l) (ap verdict_number (ask_verdict_packed n (whole32 table) set (whole16 s))) (ask_lines_packed n (whole32 table) set (whole16 s))

  pub ask_confirm_in_c : none_pending (marks_of n set) ≡ true → resolved_set struck_mark n (mark_in_c pending_mark n table set s).marks ≡ (mark_in_c struck_mark n table set s).marks
  ask_confirm_in_c = ask_confirm_packed n (whole32 table) set (whole16 s)

  pub ask_withdraw_in_c : none_pending (marks_of n set) ≡ true → resolved_set open_mark n (mark_in_c pending_mark n table set s).marks ≡ set
  ask_withdraw_in_c = ask_withdraw_packed n (whole32 table) set (whole16 s)
