-- `sets::edge_set::EdgeSet::has` meets its contract. The invariant: whether ab is among the first i edges decides
-- whether it is among all. Assumes nothing.
use mathlib.Core.Path.{refl, ◌∙◌, sym}
use Rattle.sets.specs.asks.Stored.{edge_list}
use Rattle.sets.proofs.Laws.Stored.{has_here, has_below, has_none}
use Rattle.sets.proofs.edge_set.EdgeSet.has.Goals as goal

pub loop-i-init : goal.loop-i-init
unfolding edge_list
loop-i-init c = refl

pub returns-then-joins : goal.returns-then-joins
returns-then-joins c = sym (has_here _ _ _ _ _ c.loop-i-test.true (sym c.joins.ensures ∙ c.if-joins.true))
    ∙ c.loop-i.invariant

pub loop-i-preserved : goal.loop-i-preserved
loop-i-preserved c = sym (has_below _ _ _ _ _ c.loop-i-test.true (sym c.joins.ensures ∙ c.if-joins.false))
    ∙ c.loop-i.invariant

pub returns : goal.returns
returns c = sym (has_none _ _ _ _ _ c.loop-i-test.false) ∙ c.loop-i.invariant
