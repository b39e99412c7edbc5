-- `search::pairs::Search::next_in_row` meets its contract: the loop's invariant is `Scanning` at each place of the
-- list. Assumes nothing.
use Prim.Native.Nat.{◌+◌}
use lib.ListN.{get_or}
use Rattle.search.proofs.RowSearch.{Scanning}
use Rattle.search.proofs.pairs.Search.next_in_row.Given as goal

abbrev pub invariant-loop-z : goal.invariant-loop-z
invariant-loop-z l =
    Scanning l.self l.x l.y l.cost l.first (l.from + l.z-index) (get_or l.self.candidates.now (l.from + l.z-index) 0)
