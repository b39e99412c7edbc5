-- `segments::reorder::path_length` meets its contract. The invariant: the sum so far and the path from here on are the
-- whole path. Assumes nothing.
use Rattle.segments.proofs.PointLists.{walked_on, walked_all}
use Rattle.segments.proofs.reorder.path_length.Goals as goal

pub loop-next-preserved : goal.loop-next-preserved
loop-next-preserved c =
    walked_on c.loop-next.invariant _ c.requires.listed c.loop-next-test.true
    c.length_between-sum.ensures.at c.length_between-sum.ensures.bits

pub returns : goal.returns
returns c = walked_all c.loop-next.invariant _ c.loop-next-test.false c.length_between.ensures.at
