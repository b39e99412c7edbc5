-- `pages::reading::store_marks` meets its contract: `StoringMarks` holds at the loop's head. Assumes nothing.
use Rattle.pages.proofs.Storing.{StoringMarks}
use Rattle.pages.proofs.reading.store_marks.Given as goal

abbrev pub invariant-loop-i : goal.invariant-loop-i
invariant-loop-i l = StoringMarks l.text l.first l.lines l.initial.set l.set l.i
