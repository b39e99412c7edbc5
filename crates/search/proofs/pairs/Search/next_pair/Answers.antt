-- `search::pairs::Search::next_pair` meets its contract: the loop's invariant is `Walking`, the measure the rows left.
-- Assumes nothing.
use native.Mathlib.Omega.{arith}
use Rattle.search.proofs.PairSearch.{walk_rises, walk_found, walk_row, walk_end}
use Rattle.search.proofs.pairs.Search.next_pair.Goals as goal

pub returns-in-Some : goal.returns-in-Some
returns-in-Some c = walk_found c.loop-a.invariant c.loop-a-test.true c.next_in_shape.ensures c.in-Some.is

pub loop-a-smaller : goal.loop-a-smaller
loop-a-smaller c = omega (arith, walk_rises c.loop-a.invariant c.loop-a-test.true, c.loop-a-test.true)

pub loop-a-preserved : goal.loop-a-preserved
loop-a-preserved c = walk_row c.loop-a.invariant c.loop-a-test.true c.next_in_shape.ensures c.in_default.is

pub returns : goal.returns
returns c = walk_end c.loop-a.invariant c.loop-a-test.false
