-- `lengths::instance::Instance::admit` meets its contract: each return rewrites with the tests that led there.
-- Assumes nothing.
use borrow.Author.Tests.{lt-leb, le-leb}
use Rattle.lengths.specs.Instance.{admission, in_range}
use Rattle.lengths.proofs.instance.Instance.admit.Goals as goal
use Rattle.lengths.proofs.instance.Instance.admit.Goals.{then-n-lt-LEAST_POINTS-via-then-n-lt-LEAST_POINTS, then-n-lt-LEAST_POINTS-via-else-n-lt-LEAST_POINTS+then-n-gt-MOST_POINTS}

pub returns-then-n-lt-LEAST_POINTS : goal.returns-then-n-lt-LEAST_POINTS
unfolding admission in_range
returns-then-n-lt-LEAST_POINTS c = elim c.then-n-lt-LEAST_POINTS.branch [
  | then-n-lt-LEAST_POINTS-via-then-n-lt-LEAST_POINTS w ↦ rw (admission, in_range, lt-leb _ _ w.if-n-lt-LEAST_POINTS.true)
  | then-n-lt-LEAST_POINTS-via-else-n-lt-LEAST_POINTS+then-n-gt-MOST_POINTS w ↦
      rw (admission, in_range, le-leb _ _ w.if-n-lt-LEAST_POINTS.false, lt-leb _ _ w.if-n-gt-MOST_POINTS.true)
]

pub returns : goal.returns
unfolding admission in_range
returns c = rw (admission, in_range, le-leb _ _ c.if-n-lt-LEAST_POINTS.false, le-leb _ _ c.if-n-gt-MOST_POINTS.false)
