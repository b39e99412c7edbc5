-- The refusals and their numbers (01, "Each operation and its refusals"; 02 brings those from 20 on).
use Rattle.std.specs.Prelude.{ℕ, Result, Err}
use Rattle.lengths.specs.declared.refusal.Refusal.{Refusal}
use Rattle.lengths.specs.declared.refusal.Refusal.TheVariants.{
  Points,
  Size,
  Rule,
  Coordinate,
  Length,
  Marks,
  Sheet,
  IndexAbove,
  IndexNotAbove,
  Kind,
  Point,
  Struck,
  SeventhSplit,
  Pair,
  Crossing,
  Saving,
  Tour,
  List,
  Text,
  SomethingPending,
  NothingPending,
  Buffer,
  NoSegment,
  NotShorter,
  Limits,
  Page,
  PageText,
  Desk,
  DeskBusy,
}
use Rattle.lengths.specs.declared.refusal.Refused.{Refused}

-- the number of a refusal: a program in C sees no more of it
unfoldable pub refusal_number : Refusal → ℕ
refusal_number Points = 1
refusal_number Size = 2
refusal_number Rule = 3
refusal_number Coordinate = 4
refusal_number Length = 5
refusal_number Marks = 6
refusal_number Sheet = 7
refusal_number IndexAbove = 8
refusal_number IndexNotAbove = 9
refusal_number Kind = 10
refusal_number Point = 11
refusal_number Struck = 12
refusal_number SeventhSplit = 13
refusal_number Pair = 14
refusal_number Crossing = 15
refusal_number Saving = 16
refusal_number Tour = 17
refusal_number List = 18
refusal_number Text = 19
refusal_number SomethingPending = 20
refusal_number NothingPending = 21
refusal_number Buffer = 22
refusal_number NoSegment = 23
refusal_number NotShorter = 24
refusal_number Limits = 25
refusal_number Page = 26
refusal_number PageText = 27
refusal_number Desk = 28
refusal_number DeskBusy = 29

-- a refusal, and the record at fault
abbrev pub refused_at : Refusal → (at : ℕ) → Refused
refused_at refusal at = record { refusal = refusal; at = at }

-- a refusal of a call as a whole: no record is at fault, which is record 0
abbrev pub at_call : Refusal → Refused
at_call refusal = refused_at refusal 0

-- the answer of a call that is refused as a whole
abbrev pub refuse : {A : Type 0} → Refusal → Result A Refused
refuse refusal = Err (at_call refusal)
