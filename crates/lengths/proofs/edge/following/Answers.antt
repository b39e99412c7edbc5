-- `lengths::edge::following` meets its contract: along the row, or the first edge of the next row. Assumes nothing.
use Rattle.lengths.proofs.Edges.{follows_along, follows_down}
use Rattle.lengths.proofs.edge.following.Goals as goal

pub returns-then-b-n : goal.returns-then-b-n
returns-then-b-n c = follows_along c.requires.1 c.if-b-n.true

pub returns-else-b-n : goal.returns-else-b-n
returns-else-b-n c = follows_down c.requires.1 c.if-b-n.false
