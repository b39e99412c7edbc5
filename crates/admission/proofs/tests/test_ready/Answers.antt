-- `admission::tests::test_ready` meets its contract: each way out has its lemma in `TestWays`. Assumes nothing.
use mathlib.Core.Path.{sym, ◌∙◌}
use Rattle.lengths.proofs.Refusals.{told}
use Prim.Native.Nat.{ℕ}
use mathlib.Core.List.{List}
use Rattle.admission.specs.Tested.{pending_tests}
use Rattle.admission.specs.Tests.{ready}
use Rattle.admission.proofs.Passed.{passed, both_passed}
use Rattle.admission.proofs.TestWays.{set_before, set_refused, set_passed, well_held}
use Rattle.admission.proofs.tests.test_ready.Goals as goal

pub returns-in_err-points : goal.returns-in_err-points
unfolding ready
returns-in_err-points c =
    rw (told c.from_residual.ensures.1) (set_before c.args.n c.args.marks.now (λ (m : List ℕ) (_ : ℕ). pending_tests m) c.test_instance.ensures c.in_err-points.was)

pub test_pending-requires : goal.test_pending-requires
test_pending-requires c = well_held _ (both_passed (passed (sym c.test_instance.ensures ∙ c.in_ok-points.was)))

pub returns-in_err-test_pending : goal.returns-in_err-test_pending
unfolding ready
returns-in_err-test_pending c =
    rw (told c.from_residual-in_err-test_pending.ensures.1) (set_refused c.args.n c.args.marks.now (λ (m : List ℕ) (_ : ℕ). pending_tests m) c.test_instance.ensures c.in_ok-points.was (passed (sym c.test_instance.ensures ∙ c.in_ok-points.was)).same c.test_pending.ensures c.in_err-test_pending.was)

pub returns : goal.returns
unfolding ready
returns c = set_passed c.args.n c.args.marks.now (λ (m : List ℕ) (_ : ℕ). pending_tests m) c.test_instance.ensures c.in_ok-points.was (passed (sym c.test_instance.ensures ∙ c.in_ok-points.was)).same c.test_pending.ensures c.in_ok-test_pending.was
