-- `admission::tests::test_between` meets its contract: each way out has its lemma in `TestWays`. Assumes nothing.
use mathlib.Core.Path.{sym, ◌∙◌}
use Rattle.lengths.proofs.Refusals.{told}
use Rattle.marks.proofs.PackedSets.{points_edges}
use Rattle.admission.specs.Tested.{mark_tests}
use Rattle.admission.specs.Tests.{tested_between}
use Rattle.admission.proofs.Passed.{passed_intervals}
use Rattle.admission.proofs.TestWays.{set_before, set_refused, set_passed}
use Rattle.admission.proofs.tests.test_between.Goals as goal

pub returns-in_err-points : goal.returns-in_err-points
unfolding tested_between
returns-in_err-points c =
    rw (told c.from_residual.ensures.1) (set_before c.args.n c.args.marks.now mark_tests c.test_intervals.ensures c.in_err-points.was)

pub test_marks-requires : goal.test_marks-requires
test_marks-requires c = points_edges (passed_intervals (sym c.test_intervals.ensures ∙ c.in_ok-points.was)).admits

pub returns-in_err-test_marks : goal.returns-in_err-test_marks
unfolding tested_between
returns-in_err-test_marks c =
    rw (told c.from_residual-in_err-test_marks.ensures.1) (set_refused c.args.n c.args.marks.now mark_tests c.test_intervals.ensures c.in_ok-points.was (passed_intervals (sym c.test_intervals.ensures ∙ c.in_ok-points.was)).admits.points c.test_marks.ensures c.in_err-test_marks.was)

pub returns : goal.returns
unfolding tested_between
returns c = set_passed c.args.n c.args.marks.now mark_tests c.test_intervals.ensures c.in_ok-points.was (passed_intervals (sym c.test_intervals.ensures ∙ c.in_ok-points.was)).admits.points c.test_marks.ensures c.in_ok-test_marks.was
