-- A TURN AS A STEP OF A RUN (02, Paper 14), whatever bytes the desks' state is: it leaves the edges of a 3-optimal tour
-- open, and marks of n points marks of n points; over a packed set it leaves the packed set of what it leaves of the
-- marks (`turn_on_packed`). A further kind of step cites these three. Assumes nothing.
use Prim.Native.Nat.{ℕ, ◌≤◌}
use mathlib.Core.Path.{◌≡◌, sym, subst}
use mathlib.Core.List.{List}
use Rattle.std.specs.Prelude.{Ok}
use Rattle.lengths.specs.Instance.{least_points}
use Rattle.lengths.specs.Table.{length_of}
use Rattle.tours.specs.Tour.{ThreeOptimal}
use Rattle.argument.specs.Safety.{HasOrder}
use Rattle.argument.specs.Sheet.{Place}
use Rattle.argument.proofs.Safe.{step_safe}
use Rattle.marks.specs.Mark.{struck_mark}
use Rattle.marks.specs.Packed.{ByteSet}
use Rattle.sheets.specs.Rules.{marking_of}
use Rattle.admission.specs.Tests.{ready}
use Rattle.desks.specs.Turn.{waiting, turn_from, turn_marks, turn_on_marks}
use Rattle.desks.proofs.TurnLeaves.{from_keeps, tested_keeps, turn_keeps, turn_byte_set}
use Rattle.demands.proofs.Kept.{InTour, Kept, OutOfReach, guarded}
use Rattle.demands.proofs.Monotone.{LengthsBetween}

module _ {n : ℕ} {table t : List ℕ} {Orders : Type 0} (some : least_points ≤ n) (best : ThreeOptimal n (length_of n table) t)
    (reach : OutOfReach n table t Orders) where
  -- one line, marked under the marks that it finds, over the table of the turns
  from_kept : (own : List ℕ) → LengthsBetween n own own table → (s : List ℕ) → (HasOrder s → Orders) → (marks : List ℕ) (index owner lines : ℕ) → Kept n t marks →
      Kept n t (turn_from (marking_of n own) s (waiting marks index owner lines)).marks
  from_kept own intervals s may marks index owner lines kept =
      let at : Place (List ℕ) = waiting marks index owner lines in
      from_keeps (Kept n t) (marking_of n own) s at kept
      (λ q e. step_safe (marking_of n own) (InTour t) Orders (Kept n t) (guarded some intervals best reach struck_mark) s may at q kept e)

  -- KEPT: for every state of any bytes, a turn leaves every edge of the tour open, if a call that passes the tests
  -- states the n of the table. A turn that is refused, finds no line or fails a test changes no mark. Else it marks at
  -- most one line, at the desk's index, under the marks that it finds. Such a line is accepted only if it is complete:
  -- if the tour used its edge, its own pair at each split point would be feasible, and some closing would shorten the
  -- tour. Which line it is does not matter: an index, an owner or lines that nobody wrote choose among lines, and no
  -- incomplete one is accepted.
  pub turn_kept : (state : List ℕ) (m : ℕ) (own s : List ℕ) → (HasOrder s → Orders) → (marks : List ℕ) → Kept n t marks →
      ((p : ℕ) → ready m own marks ≡ Ok p → (p ≡ n) × LengthsBetween n own own table) → Kept n t (turn_on_marks state m own marks s).marks
  unfolding turn_marks
  turn_kept state m own s may marks kept told =
      turn_keeps (Kept n t) state marks (turn_marks m own marks s) kept (λ index owner lines.
      tested_keeps (Kept n t) own marks s index owner lines kept (ready m own marks) (λ p e.
      subst (λ (k : ℕ). Kept n t (turn_from (marking_of k own) s (waiting marks index owner lines)).marks) (sym (told p e).0)
      (from_kept own (told p e).1 s may marks index owner lines kept)))

-- STAYS: marks of p points stay marks of p points, whatever n the call states
pub turn_stays : {p : ℕ} (state : List ℕ) (n : ℕ) (table s marks : List ℕ) → ByteSet p marks →
    ByteSet p (turn_on_marks state n table marks s).marks
turn_stays state n table s marks b = turn_byte_set state n table s b
