-- `lengths::refusal::Refusal::number` meets its contract: the discriminants are 01's numbers. Assumes nothing.
use Prim.Native.Nat.{◌+◌}
use mathlib.Core.Path.{◌≡◌, refl}
use denote.Enum.Declared.{tag_of}
use Rattle.lengths.specs.contracts.refusal.Refusal.{the_type}
use Rattle.lengths.specs.declared.refusal.Refusal.{Refusal}
use Rattle.lengths.specs.Refusal.{refusal_number}
use Rattle.lengths.specs.declared.refusal.Refusal.TheVariants.{
  Points,
  Size,
  Rule,
  Coordinate,
  Length,
  Marks,
  Sheet,
  IndexAbove,
  IndexNotAbove,
  Kind,
  Point,
  Struck,
  SeventhSplit,
  Pair,
  Crossing,
  Saving,
  Tour,
  List,
  Text,
  SomethingPending,
  NothingPending,
  Buffer,
  NoSegment,
  NotShorter,
  Limits,
  Page,
  PageText,
  Desk,
  DeskBusy,
}
use Rattle.lengths.proofs.refusal.Refusal.number.Goals as goal

numbered : (r : Refusal) → tag_of the_type r + 1 ≡ refusal_number r
unfolding refusal_number
numbered Points = refl
numbered Size = refl
numbered Rule = refl
numbered Coordinate = refl
numbered Length = refl
numbered Marks = refl
numbered Sheet = refl
numbered IndexAbove = refl
numbered IndexNotAbove = refl
numbered Kind = refl
numbered Point = refl
numbered Struck = refl
numbered SeventhSplit = refl
numbered Pair = refl
numbered Crossing = refl
numbered Saving = refl
numbered Tour = refl
numbered List = refl
numbered Text = refl
numbered SomethingPending = refl
numbered NothingPending = refl
numbered Buffer = refl
numbered NoSegment = refl
numbered NotShorter = refl
numbered Limits = refl
numbered Page = refl
numbered PageText = refl
numbered Desk = refl
numbered DeskBusy = refl

pub returns : goal.returns
returns c = numbered c.args.self
