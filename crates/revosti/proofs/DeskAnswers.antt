-- Eight desks for C: the number of a sheet that has ended, and that a served desk is one of the eight. Assumes nothing.
use Prim.Native.Nat.{ℕ}
use mathlib.Core.Path.{◌≡◌, sym}
use mathlib.Core.List.{List, []}
use native.Mathlib.Omega.{arith}
use Rattle.std.specs.Prelude.{Option, Some, None, Result, Ok, Err}
use Rattle.lengths.specs.declared.refusal.Refusal.{Refusal}
use Rattle.endian.specs.Bytes.{whole16, whole32}
use Rattle.sheets.specs.Verdict.{Verdict}
use Rattle.desks.specs.Turn.{DeskServed, desk_sheet, desk_turned, turn_packed, TurnedAs}
use Rattle.desks.specs.declared.turn.Served.{Served}
use Rattle.desks.specs.declared.turn.Served.TheVariants.{Ended}
use Rattle.desks.specs.declared.turn.Turned as declared
use Rattle.desks.proofs.RoundRobin.{next_found}
use Rattle.desks.proofs.TurnLeaves.{turned_desk}
use Rattle.revosti.specs.Desk.{turn_in_c}
use Rattle.revosti.specs.asks.Desk.{ServedNumber, DeskIn, FewDesks}
use Rattle.revosti.specs.asks.Mark.{MarkNumber}

pub ended_number : {s : Served} (v : Verdict) {r : ℕ} → s ≡ Ended v → MarkNumber v r → ServedNumber (desk_sheet s) r
ended_number (Ok lines) e k = record { number = rw e (k.number []); small = omega (arith, k.small) }
ended_number (Err stopped) e k = record { number = rw e (k.number []); small = omega (arith, k.small) }

pub turn_few : (state : List ℕ) (n : ℕ) (table set s : List ℕ) {answer : Result (Option declared.Turned) Refusal} {state-out set_out : List ℕ}
    → TurnedAs state n (whole32 table) set (whole16 s) answer state-out set_out → FewDesks (desk_turned answer)
turn_few state n table set s {answer} t = record { few = by (desk_turned answer) (sym t.answered) }
  where
    by : (x : Result (Option DeskServed) Refusal) → (turn_in_c state n table set s).answer ≡ x → DeskIn x
    by (Err r) e = tt
    by (Ok None) e = tt
    by (Ok (Some d)) e = (next_found state (turned_desk state set (turn_packed n (whole32 table) set (whole16 s)) e)).high
