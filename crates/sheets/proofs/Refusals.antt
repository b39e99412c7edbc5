-- No refusal has the number 0: what is refused by the number of a refusal is refused. Assumes nothing.
use Prim.Native.Nat.{ℕ}
use mathlib.Core.Path.{◌≡◌, refl}
use Rattle.lengths.specs.Refusal.{refusal_number}
use Rattle.lengths.specs.declared.refusal.Refusal.{Refusal}
use Rattle.lengths.specs.declared.refusal.Refusal.TheVariants as refusal
use Rattle.argument.specs.Verdict.{refused, refused_by}

pub refused_number : {A : Type 0} (r : Refusal) (rec : ℕ) (a : A) → refused_by (refusal_number r) rec a ≡ refused (refusal_number r) rec
unfolding refusal_number refused_by
refused_number refusal.Points rec a = refl
refused_number refusal.Size rec a = refl
refused_number refusal.Rule rec a = refl
refused_number refusal.Coordinate rec a = refl
refused_number refusal.Length rec a = refl
refused_number refusal.Marks rec a = refl
refused_number refusal.Sheet rec a = refl
refused_number refusal.IndexAbove rec a = refl
refused_number refusal.IndexNotAbove rec a = refl
refused_number refusal.Kind rec a = refl
refused_number refusal.Point rec a = refl
refused_number refusal.Struck rec a = refl
refused_number refusal.SeventhSplit rec a = refl
refused_number refusal.Pair rec a = refl
refused_number refusal.Crossing rec a = refl
refused_number refusal.Saving rec a = refl
refused_number refusal.Tour rec a = refl
refused_number refusal.List rec a = refl
refused_number refusal.Text rec a = refl
refused_number refusal.SomethingPending rec a = refl
refused_number refusal.NothingPending rec a = refl
refused_number refusal.Buffer rec a = refl
refused_number refusal.NoSegment rec a = refl
refused_number refusal.NotShorter rec a = refl
refused_number refusal.Limits rec a = refl
refused_number refusal.Page rec a = refl
refused_number refusal.PageText rec a = refl
refused_number refusal.Desk rec a = refl
refused_number refusal.DeskBusy rec a = refl
