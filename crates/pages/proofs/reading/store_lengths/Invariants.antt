-- `pages::reading::store_lengths` meets its contract: `StoringLengths` holds at the loop's head. Assumes nothing.
use Rattle.pages.proofs.Storing.{StoringLengths}
use Rattle.pages.proofs.reading.store_lengths.Given as goal

abbrev pub invariant-loop-i : goal.invariant-loop-i
invariant-loop-i l = StoringLengths l.text l.first l.lines l.initial.table l.table l.i
