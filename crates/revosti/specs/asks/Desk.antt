-- What functions ask of each other about the subject of `specs/Desk.antt`, and what they ensure.
use Rattle.std.specs.Prelude.{ℕ, ◌*◌, ◌≤◌, ◌<◌, ◌≡◌, Option, Some, None, Result, Ok, Err}
use Rattle.desks.specs.State.{desk_count}
use Rattle.desks.specs.Turn.{DeskSheet, DeskServed}
use Rattle.lengths.specs.declared.refusal.Refusal.{Refusal}
use Rattle.revosti.specs.Desk.{line_left_bit, served_number}

-- the number of what came of a desk's sheet, which has no bit above 56
pub record ServedNumber (s : DeskSheet) (r : ℕ) : Type 0 where
  pub number : r ≡ served_number s
  pub small : r < 2 * line_left_bit

-- a served desk is one of the eight
abbrev pub DeskIn : Result (Option DeskServed) Refusal → Type 0
DeskIn (Err r) = Unit {0}
DeskIn (Ok None) = Unit {0}
DeskIn (Ok (Some t)) = t.desk ≤ desk_count

pub record FewDesks (t : Result (Option DeskServed) Refusal) : Type 0 where
  pub few : DeskIn t
