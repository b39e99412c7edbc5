-- `rules::legs::Split::open_below` meets its contract: the invariant is `OpeningBelow`, that the legs below x are filled
-- in and `next` is one more than the place of xc. Assumes nothing.
use Rattle.marks.specs.Packed.{marks_of}
use Rattle.rules.proofs.LegLoops.{OpeningBelow}
use Rattle.rules.proofs.legs.Split.open_below.Given as goal

abbrev pub invariant-loop-x : goal.invariant-loop-x
invariant-loop-x l =
    let s = l.self in OpeningBelow s.most s.n (marks_of s.n s.marks.now) s.rows.now s.c s.at l.legs l.next l.step l.x
