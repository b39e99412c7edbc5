-- `reasons::line_text::tell_edge` meets its contract: an edge of c is passed by, and a pair is told. Assumes nothing.
use Rattle.reasons.proofs.LineTexts.{low_end, high_end, pair_put}
use Rattle.reasons.proofs.line_text.tell_edge.Goals.{then-x-c-via-then-x-c, then-x-c-via-else-x-c+then-y-c}
use Rattle.reasons.proofs.line_text.tell_edge.Goals as goal

pub returns-then-x-c : goal.returns-then-x-c
returns-then-x-c c = elim c.then-x-c.branch [
  | then-x-c-via-then-x-c w ↦ low_end _ _ _ _ _ w.if-x-c.true
  | then-x-c-via-else-x-c+then-y-c w ↦ high_end _ _ _ _ _ w.if-x-c.false w.if-y-c.true
]

pub returns : goal.returns
returns c =
    pair_put _ _ _ _ _ c.if-x-c.false c.if-y-c.false c.tell_pair-told.ensures
    c.put_fitting.ensures
