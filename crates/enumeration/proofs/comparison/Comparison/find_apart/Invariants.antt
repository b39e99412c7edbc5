-- `enumeration::comparison::Comparison::find_apart` meets its contract: `RowsFound` holds at the loop's head, and the measure is the
-- number of rows left. Assumes nothing.
use Rattle.enumeration.specs.asks.Find.{apart_by, RowsFound}
use Rattle.enumeration.proofs.comparison.Comparison.find_apart.Given as goal

abbrev pub invariant-loop-x : goal.invariant-loop-x
invariant-loop-x l = RowsFound l.self.n (apart_by l.self l.low l.high) l.initial.found l.found l.x l.count
