-- `lengths::distance::distance` meets its contract: a close guess is corrected, and any other leaves the search.
-- Assumes nothing.
use native.Mathlib.Omega.{arith}
use Rattle.lengths.proofs.Guesses.{step_small, corrected}
use Rattle.lengths.proofs.distance.distance.Goals as goal

pub overflow_add-result : goal.overflow_add-result
overflow_add-result c = record { fits = omega (arith, c.is_close.ensures c.if-is_close.true, step_small _ c.step.ensures) }

pub returns-then-is_close : goal.returns-then-is_close
returns-then-is_close c = corrected c.requires (c.is_close.ensures c.if-is_close.true) c.step.ensures
