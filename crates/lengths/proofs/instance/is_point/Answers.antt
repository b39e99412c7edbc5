-- `lengths::instance::is_point` meets its contract: it is the definition. Assumes nothing.
use borrow.Author.Tests.{le-leb, lt-leb}
use Rattle.lengths.specs.Instance.{is_point}
use Rattle.lengths.proofs.instance.is_point.Goals as goal

pub returns-then-a-ge1 : goal.returns-then-a-ge1
unfolding is_point
returns-then-a-ge1 c = rw (is_point, le-leb _ _ c.if-a-ge1.true)

pub returns-else-a-ge1 : goal.returns-else-a-ge1
unfolding is_point
returns-else-a-ge1 c = rw (is_point, lt-leb _ _ c.if-a-ge1.false)
