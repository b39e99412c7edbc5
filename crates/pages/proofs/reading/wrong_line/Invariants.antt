-- `pages::reading::wrong_line` meets its contract: `Seeking` holds at the loop's head. Assumes nothing.
use Rattle.pages.proofs.Seeking.{Seeking}
use Rattle.pages.proofs.reading.wrong_line.Given as goal

abbrev pub invariant-loop-i : goal.invariant-loop-i
invariant-loop-i l = Seeking l.n l.first l.lines l.text l.edge.low l.edge.high l.i
