-- `enumeration::comparison::Comparison::find_at_end` meets its contract: what `find_below` leaves is the row of `other` and rows with no
-- pair. Assumes nothing.
use Rattle.enumeration.proofs.AllRows.{rows_row, rows_done}
use Rattle.enumeration.proofs.AtEnd.{end_done}
use Rattle.enumeration.proofs.comparison.Comparison.find_at_end.Goals as goal

pub find_in_row-requires : goal.find_in_row-requires
find_in_row-requires c = rows_row c.args.self.now c.requires.asked c.find_below-count.ensures c.if-other-self.true

pub returns-then-other-self : goal.returns-then-other-self
returns-then-other-self c = end_done c.args.self.now c.requires c.find_below-count.ensures c.if-other-self.true c.find_in_row.ensures

pub returns : goal.returns
returns c = rows_done c.args.self.now c.requires.asked c.find_below-count.ensures c.if-other-self.false
