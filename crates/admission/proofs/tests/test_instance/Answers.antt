-- `admission::tests::test_instance` meets its contract: each way out has its lemma in `TestWays`. Assumes nothing.
use mathlib.Core.Path.{sym, ◌∙◌}
use Rattle.lengths.proofs.Refusals.{told}
use Rattle.marks.proofs.PackedSets.{points_edges}
use Rattle.admission.specs.Tested.{mark_tests}
use Rattle.admission.specs.Tests.{tested}
use Rattle.admission.proofs.Passed.{table_passed, table_admits}
use Rattle.admission.proofs.TestWays.{set_before, set_refused, set_passed}
use Rattle.admission.proofs.tests.test_instance.Goals as goal

pub returns-in_err-points : goal.returns-in_err-points
unfolding tested
returns-in_err-points c =
    rw (told c.from_residual.ensures.1) (set_before c.args.n c.args.marks.now mark_tests c.test_table.ensures c.in_err-points.was)

pub test_marks-requires : goal.test_marks-requires
test_marks-requires c = points_edges (table_admits (table_passed (sym c.test_table.ensures ∙ c.in_ok-points.was)))

pub returns-in_err-test_marks : goal.returns-in_err-test_marks
unfolding tested
returns-in_err-test_marks c =
    rw (told c.from_residual-in_err-test_marks.ensures.1) (set_refused c.args.n c.args.marks.now mark_tests c.test_table.ensures c.in_ok-points.was (table_passed (sym c.test_table.ensures ∙ c.in_ok-points.was)).same c.test_marks.ensures c.in_err-test_marks.was)

pub returns : goal.returns
unfolding tested
returns c = set_passed c.args.n c.args.marks.now mark_tests c.test_table.ensures c.in_ok-points.was (table_passed (sym c.test_table.ensures ∙ c.in_ok-points.was)).same c.test_marks.ensures c.in_ok-test_marks.was
