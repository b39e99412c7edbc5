-- `enumeration::comparison::Comparison::find_in_row` meets its contract: `Rowing` holds at the loop's head, and the measure is what is
-- left of the row. Assumes nothing.
use Rattle.enumeration.proofs.Rows.{Rowing}
use Rattle.enumeration.proofs.comparison.Comparison.find_in_row.Given as goal

abbrev pub invariant-loop-i : goal.invariant-loop-i
invariant-loop-i l =
    Rowing l.self l.x l.fn.barred l.initial.found l.before l.cost l.first l.found l.count l.i
