-- `segments::segment::segment_of` meets its contract: each return is a case of `segment_of`. Assumes nothing.
use mathlib.Core.Path.{sym, ◌∙◌}
use mathlib.Core.Logic.{⊎_elim}
use Rattle.segments.specs.SegmentTest.{between}
use Rattle.segments.proofs.Ways.{keeps_as, keeps_one, segment_self, segment_edge, segment_by, one_apart, two_apart}
use Rattle.segments.proofs.segment.segment_of.Goals.{then-u-v-via-then-u-v, then-u-v-via-else-u-v+then-has}
use Rattle.segments.proofs.segment.segment_of.Goals as goal

pub returns-then-u-v : goal.returns-then-u-v
returns-then-u-v c = elim c.then-u-v.branch [
  | then-u-v-via-then-u-v w ↦ segment_self _ _ _ w.if-u-v.true
  | then-u-v-via-else-u-v+then-has w ↦ segment_edge _ _ _ w.if-u-v.false (sym w.has.ensures ∙ w.if-has.true)
]

pub follow-requires : goal.follow-requires
follow-requires c = one_apart _ _ _ (sym c.has.ensures ∙ c.if-has.false) (sym c.neighbours_of.ensures ∙ c.in-One.is)

pub follow-requires-in-Two : goal.follow-requires-in-Two
follow-requires-in-Two c = (two_apart _ _ _ (sym c.has.ensures ∙ c.if-has.false) (sym c.neighbours_of.ensures ∙ c.in-Two.is)).0

pub follow-requires-in-Two-2 : goal.follow-requires-in-Two-2
follow-requires-in-Two-2 c = (two_apart _ _ _ (sym c.has.ensures ∙ c.if-has.false) (sym c.neighbours_of.ensures ∙ c.in-Two.is)).1

pub returns-in-One : goal.returns-in-One
unfolding between
returns-in-One c =
    keeps_as c.follow.result c.follow.ensures
    (segment_by _ _ _ _ c.if-u-v.false (sym c.has.ensures ∙ c.if-has.false) (sym c.neighbours_of.ensures ∙ c.in-One.is))

pub returns-in-Two : goal.returns-in-Two
unfolding between
returns-in-Two c =
    keeps_as c.xor.result
    (rw c.xor.ensures (keeps_one _ _ c.follow-in-Two.result c.follow-in-Two-2.result c.follow-in-Two.ensures c.follow-in-Two-2.ensures))
    (segment_by _ _ _ _ c.if-u-v.false (sym c.has.ensures ∙ c.if-has.false) (sym c.neighbours_of.ensures ∙ c.in-Two.is))

pub returns-in-None : goal.returns-in-None
unfolding between
returns-in-None c =
    let far = sym c.has.ensures ∙ c.if-has.false in
    ⊎_elim (λ e. sym (segment_by _ _ _ _ c.if-u-v.false far (sym c.neighbours_of.ensures ∙ e)))
    (λ e. sym (segment_by _ _ _ _ c.if-u-v.false far (sym c.neighbours_of.ensures ∙ e))) c.in-None.is
