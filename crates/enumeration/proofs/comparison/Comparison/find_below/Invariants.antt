-- `enumeration::comparison::Comparison::find_below` meets its contract: `Below` holds at the loop's head, and the measure is the number
-- of points left below `other`. Assumes nothing.
use Rattle.enumeration.proofs.AtEnd.{Below}
use Rattle.enumeration.proofs.comparison.Comparison.find_below.Given as goal

abbrev pub invariant-loop-x : goal.invariant-loop-x
invariant-loop-x l = Below l.self l.other l.initial.found l.cost l.found l.count l.x
