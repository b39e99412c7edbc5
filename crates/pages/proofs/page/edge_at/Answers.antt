-- `pages::page::edge_at` meets its contract: `Walking` holds at the loop's head. Assumes nothing.
use Rattle.pages.proofs.PageParts.{walk_start, walk_edge, walk_on, walk_done}
use Rattle.pages.proofs.page.edge_at.Goals as goal

pub loop-init : goal.loop-init
loop-init c = walk_start c.requires

pub following-edge-requires : goal.following-edge-requires
following-edge-requires c = walk_edge c.requires c.loop.invariant c.loop-test.true

pub loop-preserved : goal.loop-preserved
loop-preserved c = walk_on c.requires c.loop.invariant c.loop-test.true c.following-edge.ensures

pub returns : goal.returns
returns c = walk_done c.requires c.loop.invariant c.loop-test.false
