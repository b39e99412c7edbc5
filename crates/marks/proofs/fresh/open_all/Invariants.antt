-- `marks::fresh::open_all` meets its contract: at the loop's head the first i bytes are those of open edges.
-- Assumes nothing.
use lib.ListN.{replicate}
use Rattle.marks.specs.Mark.{open_mark}
use Rattle.marks.specs.asks.Converting.{byte_at}
use Rattle.marks.proofs.Packing.{Filling}
use Rattle.marks.proofs.fresh.open_all.Given as goal

abbrev pub invariant-loop-i : goal.invariant-loop-i
invariant-loop-i l = Filling (byte_at (replicate l.edges open_mark)) l.initial.set l.set l.i
