-- `tsplib::gathering::write_numbers` meets its contract: `Writing` holds at the loop's head. Assumes nothing.
use Rattle.tsplib.proofs.NumbersGathered.{writing_start, ended_room, writing_on, begun_room, writing_done}
use Rattle.tsplib.proofs.gathering.write_numbers.Goals as goal

pub loop-b-init : goal.loop-b-init
loop-b-init c = writing_start _ _ _ _

pub write_ended-spot-requires : goal.write_ended-spot-requires
write_ended-spot-requires c = ended_room c.loop-b.invariant c.loop-b-test.true c.requires

pub loop-b-preserved : goal.loop-b-preserved
loop-b-preserved c = writing_on c.loop-b.invariant c.loop-b-test.true c.write_ended-spot.ensures c.begun_behind-begun.ensures

pub write_begun-requires : goal.write_begun-requires
write_begun-requires c = begun_room c.loop-b.invariant c.loop-b-test.false c.requires

pub returns : goal.returns
returns c = writing_done c.loop-b.invariant c.loop-b-test.false c.write_begun.ensures
