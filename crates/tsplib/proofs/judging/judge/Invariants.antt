-- `tsplib::judging::judge` meets its contract: `Judging` holds at the loop's head. Assumes nothing.
use lib.ListN.{length}
use Rattle.tsplib.proofs.Judgement.{Judging}
use Rattle.tsplib.proofs.judging.judge.Given as goal

abbrev pub invariant-loop-end : goal.invariant-loop-end
invariant-loop-end l = Judging l.fn.text l.state l.passed l.maximum l.rest

abbrev pub decreases-loop-end : goal.decreases-loop-end
decreases-loop-end l = length l.rest
