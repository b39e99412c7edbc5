-- `admission::tests::test_places` meets its contract: each way out has its lemma in `TestWays`. Assumes nothing.
use mathlib.Core.Path.{refl, sym}
use Rattle.lengths.proofs.Refusals.{told}
use Rattle.marks.proofs.PackedSets.{points_edges}
use Rattle.admission.specs.Tested.{mark_tests}
use Rattle.admission.specs.Tests.{places_tested}
use Rattle.admission.proofs.Passed.{places_admits}
use Rattle.admission.proofs.TestWays.{places_points, places_size, places_passed, set_before, set_refused, set_passed}
use Rattle.admission.proofs.tests.test_places.Goals as goal

pub returns-in_err-points : goal.returns-in_err-points
unfolding places_tested
returns-in_err-points c =
    rw (told c.from_residual.ensures.1) (set_before c.args.n c.args.marks.now mark_tests (sym (places_points _ _ c.test_points.ensures c.in_err-points.was)) refl)

pub returns-in_err-test_size : goal.returns-in_err-test_size
unfolding places_tested
returns-in_err-test_size c =
    rw (told c.from_residual-in_err-test_size.ensures.1) (set_before c.args.n c.args.marks.now mark_tests (sym (places_size _ _ c.test_points.ensures c.in_ok-points.was c.test_size.ensures c.in_err-test_size.was)) refl)

pub test_marks-requires : goal.test_marks-requires
test_marks-requires c = points_edges (places_admits _ (places_passed _ _ c.test_points.ensures c.in_ok-points.was c.test_size.ensures c.in_ok-test_size.was))

pub returns-in_err-test_marks : goal.returns-in_err-test_marks
unfolding places_tested
returns-in_err-test_marks c =
    rw (told c.from_residual-in_err-test_marks.ensures.1) (set_refused c.args.n c.args.marks.now mark_tests (sym (places_passed _ _ c.test_points.ensures c.in_ok-points.was c.test_size.ensures c.in_ok-test_size.was)) refl (places_admits _ (places_passed _ _ c.test_points.ensures c.in_ok-points.was c.test_size.ensures c.in_ok-test_size.was)).points c.test_marks.ensures c.in_err-test_marks.was)

pub returns : goal.returns
unfolding places_tested
returns c = set_passed c.args.n c.args.marks.now mark_tests (sym (places_passed _ _ c.test_points.ensures c.in_ok-points.was c.test_size.ensures c.in_ok-test_size.was)) refl (places_admits _ (places_passed _ _ c.test_points.ensures c.in_ok-points.was c.test_size.ensures c.in_ok-test_size.was)).points c.test_marks.ensures c.in_ok-test_marks.was
