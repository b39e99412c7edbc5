-- `enumeration::comparison::Comparison::find_apart` meets its contract: `RowsFound` holds at the loop's head, and the measure is the
-- number of rows left. Assumes nothing.
use Rattle.enumeration.specs.asks.Find.{apart_by}
use Rattle.enumeration.proofs.AllRows.{rows_start, rows_row, rows_done, apart_on}
use Rattle.enumeration.proofs.comparison.Comparison.find_apart.Goals as goal

pub loop-x-init : goal.loop-x-init
loop-x-init c = rows_start (apart_by c.args.self.now c.args.low c.args.high) c.requires

pub find_in_row-count-requires : goal.find_in_row-count-requires
find_in_row-count-requires c = rows_row c.args.self.now c.requires c.loop-x.invariant c.loop-x-test.true

pub loop-x-preserved : goal.loop-x-preserved
loop-x-preserved c = apart_on c.args.self.now c.args.low c.args.high c.requires c.loop-x.invariant c.loop-x-test.true c.barred_in.ensures c.find_in_row-count.ensures

pub shape_of-found : goal.shape_of-found
shape_of-found c = c.loop-x.invariant.size

pub returns : goal.returns
returns c = rows_done c.args.self.now c.requires c.loop-x.invariant c.loop-x-test.false
