-- `sets::shape::reaches` meets its contract. The invariant: what is to be answered from here, with `counter` points of a
-- cycle passed, is what was to be answered at the start. Assumes nothing.
use mathlib.Core.Path.{◌∙◌, sym}
use Rattle.sets.proofs.Laws.Walk.{reaches_end, reaches_here, reaches_step}
use Rattle.sets.proofs.shape.reaches.Goals as goal

pub returns-then-at-y : goal.returns-then-at-y
returns-then-at-y c = sym (reaches_here _ _ _ _ _ _ c.loop-test.true c.if-at-y.true) ∙ c.loop.invariant

pub returns-in-Stop : goal.returns-in-Stop
returns-in-Stop c =
    sym (reaches_step _ _ _ _ _ _ c.loop-test.true c.if-at-y.false
    (sym c.onward.ensures ∙ c.in-Stop.is))
    ∙ c.loop.invariant

pub returns-in-Fork : goal.returns-in-Fork
returns-in-Fork c =
    sym (reaches_step _ _ _ _ _ _ c.loop-test.true c.if-at-y.false
    (sym c.onward.ensures ∙ c.in-Fork.is))
    ∙ c.loop.invariant

pub loop-preserved : goal.loop-preserved
loop-preserved c =
    sym (reaches_step _ _ _ _ _ _ c.loop-test.true c.if-at-y.false
    (sym c.onward.ensures ∙ c.in-On.is))
    ∙ c.loop.invariant

pub returns : goal.returns
returns c = sym (reaches_end _ _ _ _ _ _ c.loop-test.false) ∙ c.loop.invariant
