-- `pages::reading::wrong_line` meets its contract: `Seeking` holds at the loop's head. Assumes nothing.
use native.Mathlib.Omega.{arith}
use Rattle.pages.proofs.PageLines.{first_asked}
use Rattle.pages.proofs.Seeking.{seek_start, seek_edge, seek_short, seek_asked, seek_wrong, seek_on, seek_done}
use borrow.Author.Rules.{rules}
use Rattle.pages.proofs.reading.wrong_line.Goals as goal

pub edge_at-edge-requires : goal.edge_at-edge-requires
edge_at-edge-requires c = first_asked c.requires

pub loop-i-init : goal.loop-i-init
loop-i-init c = seek_start c.edge_at-edge.ensures

pub overflow_cast-edge : goal.overflow_cast-edge
overflow_cast-edge c = omega (arith, seek_short c.requires c.loop-i.invariant c.loop-i-test.true)

pub overflow_cast-edge-in-loop-i : goal.overflow_cast-edge-in-loop-i
overflow_cast-edge-in-loop-i c = omega (arith, seek_short c.requires c.loop-i.invariant c.loop-i-test.true)

pub has_line-requires : goal.has_line-requires
has_line-requires c = seek_asked c.requires c.loop-i.invariant c.loop-i-test.true

pub returns-then-not-has_line : goal.returns-then-not-has_line
returns-then-not-has_line c = seek_wrong c.requires c.loop-i.invariant c.loop-i-test.true c.has_line.ensures (search rules)

pub following-edge-requires : goal.following-edge-requires
following-edge-requires c = (c.requires.few, seek_edge c.requires c.loop-i.invariant c.loop-i-test.true)

pub loop-i-preserved : goal.loop-i-preserved
loop-i-preserved c =
    seek_on c.requires c.loop-i.invariant c.loop-i-test.true c.has_line.ensures (search rules) c.following-edge.ensures

pub overflow_add-result-2 : goal.overflow_add-result-2
overflow_add-result-2 c = omega (arith, c.loop-i.invariant.inside, c.requires.most)

pub returns : goal.returns
returns c = seek_done c.requires c.loop-i.invariant c.loop-i-test.false
