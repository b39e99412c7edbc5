-- The slip of a verdict. Assumes nothing.
use Prim.Native.Nat.{ℕ}
use mathlib.Core.Path.{◌≡◌, refl, ◌∙◌, ap}
use mathlib.Core.List.{List, []}
use Rattle.argument.specs.Sheet.{Result}
use Rattle.std.specs.Prelude.{Ok, Err}
use Rattle.sheets.specs.Verdict.{Verdict, result_of}
use Rattle.receipts.specs.Receipt.{receipt_of}

-- a slip keeps no marks: that of a verdict is that of what the sheet answers
receipt_marks : (v : Verdict) (left : List ℕ) → receipt_of (result_of v []) ≡ receipt_of (result_of v left)
receipt_marks (Ok lines) left = refl
receipt_marks (Err stopped) left = refl

pub receipt_answered : (v : Verdict) (left : List ℕ) {r : Result (List ℕ)} → result_of v left ≡ r → receipt_of (result_of v []) ≡ receipt_of r
receipt_answered v left h = receipt_marks v left ∙ ap receipt_of h
