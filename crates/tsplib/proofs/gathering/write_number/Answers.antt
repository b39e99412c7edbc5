-- `tsplib::gathering::write_number` meets its contract. Assumes nothing.
use Rattle.tsplib.proofs.Entries.{left_out, put_in}
use Rattle.tsplib.proofs.gathering.write_number.Goals as goal

pub returns-then-spot-gt0 : goal.returns-then-spot-gt0
returns-then-spot-gt0 c = left_out _ _ _ c.if-spot-gt0.true

pub returns : goal.returns
returns c = put_in _ _ _ c.if-spot-gt0.false c.requires c.put.ensures
