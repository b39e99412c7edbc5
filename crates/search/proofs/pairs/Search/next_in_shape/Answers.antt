-- `search::pairs::Search::next_in_shape` meets its contract: the loop's invariant is `Trying`, the measure the points left.
-- Assumes nothing.
use mathlib.Core.Path.{◌≡◌, ◌∙◌}
use native.Mathlib.Omega.{arith}
use borrow.Author.Rules.{rules}
use Rattle.sets.specs.declared.neighbours.PathStep.TheVariants.{Fork}
use Rattle.search.proofs.RowShapes.{try_start, try_none, try_fork, try_found, try_on, try_rises, try_end}
use Rattle.search.proofs.pairs.Search.next_in_shape.Goals as goal

pub returns-in_err-z : goal.returns-in_err-z
returns-in_err-z c = c.from_residual.ensures ∙ try_none c.requires c.in_err-z.ensures

pub returns-then-eq : goal.returns-then-eq
returns-then-eq c =
    let fork : c.look_beyond-ahead.result ≡ Fork = search rules in
    try_fork c.requires c.look_beyond-ahead.ensures fork

pub loop-ahead-init : goal.loop-ahead-init
loop-ahead-init c = try_start c.requires c.look_beyond-ahead.ensures c.in_ok-z.ensures

pub returns-in_err-z-2 : goal.returns-in_err-z-2
returns-in_err-z-2 c = c.from_residual-in_err-z-2.ensures ∙ try_end c.loop-ahead.invariant c.shuts.ensures c.loop-ahead-test.true c.in_err-z-2.ensures

pub loop-ahead-smaller : goal.loop-ahead-smaller
loop-ahead-smaller c = omega (arith, try_rises c.loop-ahead.invariant c.in_ok-z-2.ensures)

pub loop-ahead-preserved : goal.loop-ahead-preserved
loop-ahead-preserved c = try_on c.loop-ahead.invariant c.shuts.ensures c.loop-ahead-test.true c.in_ok-z-2.ensures

pub returns : goal.returns
returns c = try_found c.loop-ahead.invariant c.shuts.ensures c.loop-ahead-test.false
