-- The numbers of refusals (01; 02 brings those from 20 on): each is from 1 to 29, and 19 is that of a text. Assumes
-- nothing.
use Prim.Native.Nat.{ℕ, ◌≤◌}
use mathlib.Core.Path.{◌≡◌, refl}
use native.Mathlib.Omega.{arith}
use Rattle.lengths.specs.Refusal.{refusal_number}
use Rattle.lengths.specs.declared.refusal.Refusal.{Refusal}
use Rattle.lengths.specs.declared.refusal.Refusal.TheVariants.{
  Points,
  Size,
  Rule,
  Coordinate,
  Length,
  Marks,
  Sheet,
  IndexAbove,
  IndexNotAbove,
  Kind,
  Point,
  Struck,
  SeventhSplit,
  Pair,
  Crossing,
  Saving,
  Tour,
  List,
  Text,
  SomethingPending,
  NothingPending,
  Buffer,
  NoSegment,
  NotShorter,
  Limits,
  Page,
  PageText,
  Desk,
  DeskBusy,
}

pub number_within : (r : Refusal) → (1 ≤ refusal_number r) × (refusal_number r ≤ 29)
unfolding refusal_number
number_within Points = (omega arith, omega arith)
number_within Size = (omega arith, omega arith)
number_within Rule = (omega arith, omega arith)
number_within Coordinate = (omega arith, omega arith)
number_within Length = (omega arith, omega arith)
number_within Marks = (omega arith, omega arith)
number_within Sheet = (omega arith, omega arith)
number_within IndexAbove = (omega arith, omega arith)
number_within IndexNotAbove = (omega arith, omega arith)
number_within Kind = (omega arith, omega arith)
number_within Point = (omega arith, omega arith)
number_within Struck = (omega arith, omega arith)
number_within SeventhSplit = (omega arith, omega arith)
number_within Pair = (omega arith, omega arith)
number_within Crossing = (omega arith, omega arith)
number_within Saving = (omega arith, omega arith)
number_within Tour = (omega arith, omega arith)
number_within List = (omega arith, omega arith)
number_within Text = (omega arith, omega arith)
number_within SomethingPending = (omega arith, omega arith)
number_within NothingPending = (omega arith, omega arith)
number_within Buffer = (omega arith, omega arith)
number_within NoSegment = (omega arith, omega arith)
number_within NotShorter = (omega arith, omega arith)
number_within Limits = (omega arith, omega arith)
number_within Page = (omega arith, omega arith)
number_within PageText = (omega arith, omega arith)
number_within Desk = (omega arith, omega arith)
number_within DeskBusy = (omega arith, omega arith)

pub text_named : (r : Refusal) → refusal_number r ≡ 19 → r ≡ Text
unfolding refusal_number
text_named Points e = absurd (omega (arith, e))
text_named Size e = absurd (omega (arith, e))
text_named Rule e = absurd (omega (arith, e))
text_named Coordinate e = absurd (omega (arith, e))
text_named Length e = absurd (omega (arith, e))
text_named Marks e = absurd (omega (arith, e))
text_named Sheet e = absurd (omega (arith, e))
text_named IndexAbove e = absurd (omega (arith, e))
text_named IndexNotAbove e = absurd (omega (arith, e))
text_named Kind e = absurd (omega (arith, e))
text_named Point e = absurd (omega (arith, e))
text_named Struck e = absurd (omega (arith, e))
text_named SeventhSplit e = absurd (omega (arith, e))
text_named Pair e = absurd (omega (arith, e))
text_named Crossing e = absurd (omega (arith, e))
text_named Saving e = absurd (omega (arith, e))
text_named Tour e = absurd (omega (arith, e))
text_named List e = absurd (omega (arith, e))
text_named Text e = refl
text_named SomethingPending e = absurd (omega (arith, e))
text_named NothingPending e = absurd (omega (arith, e))
text_named Buffer e = absurd (omega (arith, e))
text_named NoSegment e = absurd (omega (arith, e))
text_named NotShorter e = absurd (omega (arith, e))
text_named Limits e = absurd (omega (arith, e))
text_named Page e = absurd (omega (arith, e))
text_named PageText e = absurd (omega (arith, e))
text_named Desk e = absurd (omega (arith, e))
text_named DeskBusy e = absurd (omega (arith, e))
