-- `tsplib::gathering::write_ended` meets its contract. Assumes nothing.
use Rattle.tsplib.proofs.Entries.{none_in}
use Rattle.tsplib.proofs.NumbersGathered.{ended_none}
use Rattle.tsplib.proofs.gathering.write_ended.Goals as goal

pub returns-then-b-ne-BLANK : goal.returns-then-b-ne-BLANK
returns-then-b-ne-BLANK c = none_in _ _ (ended_none _ _ c.if-b-ne-BLANK.true)
