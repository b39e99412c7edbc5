-- `lengths::distance::step` meets its contract: the number of a Bool is the step. Assumes nothing.
use Rattle.lengths.proofs.Guesses.{failing}
use Rattle.lengths.proofs.distance.step.Goals as goal

pub returns : goal.returns
returns c = failing _ c.test.ensures
