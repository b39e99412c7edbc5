-- `lengths::distance::test` meets its contract: the products fit, since d has 21 bits. Assumes nothing.
use Rattle.lengths.specs.Distance.{passes}
use Rattle.lengths.specs.asks.Distance.{rounded_by}
use Rattle.lengths.proofs.distance.test.Goals as goal

pub returns-in-Nearest : goal.returns-in-Nearest
unfolding passes rounded_by
returns-in-Nearest c = rw c.in-Nearest.is

pub returns-in-Up : goal.returns-in-Up
unfolding passes rounded_by
returns-in-Up c = rw c.in-Up.is
