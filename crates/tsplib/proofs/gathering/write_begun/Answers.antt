-- `tsplib::gathering::write_begun` meets its contract. Assumes nothing.
use mathlib.Core.Path.{ap}
use Rattle.tsplib.proofs.Entries.{none_in}
use Rattle.tsplib.specs.asks.Gathering.{number_of}
use Rattle.tsplib.proofs.gathering.write_begun.Goals as goal

pub returns-in-None : goal.returns-in-None
returns-in-None c = none_in _ _ (ap number_of c.in-None.is)
