-- `lengths::distance::gap_distance` meets its contract: each arm is the definition at its rule. Assumes nothing.
use Rattle.lengths.specs.Distance.{gap_distance}
use borrow.Author.Rules.{rules}
use Rattle.lengths.proofs.distance.gap_distance.Goals as goal

pub returns-in-Man2d : goal.returns-in-Man2d
unfolding gap_distance
returns-in-Man2d c = record { at = rw c.in-Man2d.is; bits = search rules }

pub returns-in-Max2d : goal.returns-in-Max2d
unfolding gap_distance
returns-in-Max2d c = record { at = rw c.in-Max2d.is c.max.ensures; bits = search rules }

pub returns-in-Rooted : goal.returns-in-Rooted
unfolding gap_distance
returns-in-Rooted c = record { at = rw c.in-Rooted.is c.rooted.ensures.at; bits = c.rooted.ensures.bits }
