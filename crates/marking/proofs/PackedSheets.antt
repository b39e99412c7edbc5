-- A sheet over the packed set of a byte set: it answers what the sheet over the byte set answers, and leaves the packed
-- set of what that leaves. Assumes nothing.
use Prim.Native.Nat.{ℕ, ◌≤◌}
use mathlib.Core.Path.{◌≡◌, refl, ◌∙◌, ap}
use mathlib.Core.Bool.{Bool, true, false, cond}
use mathlib.Core.List.{List}
use lib.ListN.{length}
use Rattle.std.specs.Prelude.{Result, Ok, Err}
use Rattle.lists.specs.Test.{unless}
use Rattle.lengths.specs.declared.refusal.Refusal.{Refusal}
use Rattle.lengths.specs.declared.refusal.Refusal.TheVariants as refusal
use Rattle.argument.specs.Sheet.{sheet}
use Rattle.argument.specs.Sheet as lines
use Rattle.marks.specs.Mark.{pending_mark}
use Rattle.marks.specs.Packed.{ByteSet, packed, marks_of, repacked}
use Rattle.marks.proofs.PackedSets.{packed_is_well, marks_packed}
use Rattle.sheets.specs.Rules.{marking_between}
use Rattle.sheets.specs.Sheet.{whole_sheet}
use Rattle.sheets.specs.Verdict.{Verdict, result_of}
use Rattle.marking.proofs.MarkingSheets.{marked_set}
use Rattle.marking.specs.Mark.{turned_down, mark_tested, mark_by, packed_result, repack, mark_packed_by}
use Rattle.admission.specs.Tests.{ready}

-- marks of p points that are marked behind any tests, or turned down, are marks of p points, whatever n a call states
pub tested_byte_set : (mark : ℕ) {p : ℕ} (out put s : List ℕ) {bytes : List ℕ} → mark ≤ pending_mark → ByteSet p bytes → (t : Result ℕ Refusal) → ByteSet p (mark_tested mark t out put bytes s).marks
tested_byte_set mark {p} out put s {bytes} l b (Err x) = b
tested_byte_set mark {p} out put s {bytes} l b (Ok q) = whole (whole_sheet (length s))
  where
    whole : (t : Bool) → ByteSet p (unless t (turned_down refusal.Sheet bytes) (sheet (marking_between mark q out put) s bytes)).marks
    whole true = marked_set mark q out put s l b
    whole false = b

pub mark_byte_set : (mark n : ℕ) {p : ℕ} (table s : List ℕ) {bytes : List ℕ} → mark ≤ pending_mark → ByteSet p bytes → ByteSet p (mark_by mark n table bytes s).marks
unfolding mark_by
mark_byte_set mark n {p} table s {bytes} l b = tested_byte_set mark table table s l b (ready n table bytes)

module _ (mark : ℕ) {n : ℕ} (table s : List ℕ) {bytes : List ℕ} (b : ByteSet n bytes) where
  -- the packed set of marks, marked
  pub mark-packed : mark_packed_by mark n table (packed bytes) s ≡ packed_result (mark_by mark n table bytes s)
  unfolding mark_packed_by repacked
  mark-packed =
      let r : lines.Result (List ℕ) = mark_by mark n table bytes s in
      ap (λ (m : List ℕ). repack n (packed bytes) (mark_by mark n table m s)) (marks_packed b)
      ∙ ap (λ (t : Bool). record { marks = cond t (packed r.marks) (packed bytes); lines = r.lines; verdict = r.verdict }) (packed_is_well b)

  -- a result by the marks that its packed set holds
  abbrev held : lines.Result (List ℕ) → lines.Result (List ℕ)
  held r = record { marks = marks_of n r.marks; lines = r.lines; verdict = r.verdict }

  held_result : (v : Verdict) (left : List ℕ) → result_of v (marks_of n left) ≡ held (result_of v left)
  held_result (Ok lines) left = refl
  held_result (Err s) left = refl

  -- what marking the packed set leaves holds what marking the byte set leaves
  pub mark_held : (v : Verdict) (left : List ℕ) → mark ≤ pending_mark → result_of v left ≡ mark_packed_by mark n table (packed bytes) s → result_of v (marks_of n left) ≡ mark_by mark n table bytes s
  mark_held v left l e =
      let r : lines.Result (List ℕ) = mark_by mark n table bytes s in
      held_result v left
      ∙ ap held (e ∙ mark-packed)
      ∙ ap (λ (m : List ℕ). record { marks = m; lines = r.lines; verdict = r.verdict }) (marks_packed (mark_byte_set mark n table s l b))
