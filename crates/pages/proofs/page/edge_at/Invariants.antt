-- `pages::page::edge_at` meets its contract: `Walking` holds at the loop's head. Assumes nothing.
use Rattle.pages.proofs.PageParts.{Walking}
use Rattle.pages.proofs.page.edge_at.Given as goal

abbrev pub invariant-loop : goal.invariant-loop
invariant-loop l = Walking l.n l.place l.edge.low l.edge.high l.counter
