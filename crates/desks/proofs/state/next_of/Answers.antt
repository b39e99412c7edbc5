-- `desks::state::next_of` meets its contract: `Seeking` holds at the loop's head. Assumes nothing.
use mathlib.Core.Path.{sym, ◌∙◌}
use native.Mathlib.Omega.{arith}
use Rattle.desks.proofs.RoundRobin.{seek_start, seek_found, seek_on, seek_ends}
use Rattle.desks.proofs.state.next_of.Goals as goal

pub loop-init : goal.loop-init
loop-init c = seek_start c.requires c.number_at.ensures c.following-desk.ensures

pub returns-then-has_line : goal.returns-then-has_line
returns-then-has_line c = seek_found c.loop.invariant (omega (arith, c.loop-test.true)) (sym c.has_line.ensures ∙ c.if-has_line.true)

pub loop-preserved : goal.loop-preserved
loop-preserved c = seek_on c.loop.invariant _ _ (omega (arith, c.loop-test.true)) (sym c.has_line.ensures ∙ c.if-has_line.false) c.following-desk-in-loop.ensures

pub returns : goal.returns
returns c = seek_ends c.loop.invariant (omega (arith, c.loop-test.false))
