-- `admission::tests::test_intervals` meets its contract: each way out has its lemma in `TestWays`. Assumes nothing.
use Rattle.lengths.proofs.Refusals.{told}
use Rattle.admission.proofs.TestWays.{both_points, both_low_size, both_high_size, both_low_limit, both_high_limit, both_order, both_done}
use Rattle.admission.proofs.tests.test_intervals.Goals as goal

pub returns-in_err-points : goal.returns-in_err-points
returns-in_err-points c =
    rw (told c.from_residual.ensures.1) (both_points _ _ _ c.test_points.ensures c.in_err-points.was)

pub returns-in_err-test_size : goal.returns-in_err-test_size
returns-in_err-test_size c =
    rw (told c.from_residual-in_err-test_size.ensures.1) (both_low_size _ _ _ c.test_points.ensures c.in_ok-points.was c.test_size.ensures c.in_err-test_size.was)

pub returns-in_err-test_size-2 : goal.returns-in_err-test_size-2
returns-in_err-test_size-2 c =
    rw (told c.from_residual-in_err-test_size-2.ensures.1) (both_high_size _ _ _ c.test_points.ensures c.in_ok-points.was c.test_size.ensures c.in_ok-test_size.was c.test_size-2.ensures c.in_err-test_size-2.was)

pub returns-in_err-test_lengths : goal.returns-in_err-test_lengths
returns-in_err-test_lengths c =
    rw (told c.from_residual-in_err-test_lengths.ensures.1) (both_low_limit _ _ _ c.test_points.ensures c.in_ok-points.was c.test_size.ensures c.in_ok-test_size.was c.test_size-2.ensures c.in_ok-test_size-2.was c.test_lengths.ensures c.in_err-test_lengths.was)

pub returns-in_err-test_lengths-2 : goal.returns-in_err-test_lengths-2
returns-in_err-test_lengths-2 c =
    rw (told c.from_residual-in_err-test_lengths-2.ensures.1) (both_high_limit _ _ _ c.test_points.ensures c.in_ok-points.was c.test_size.ensures c.in_ok-test_size.was c.test_size-2.ensures c.in_ok-test_size-2.was c.test_lengths.ensures c.in_ok-test_lengths.was c.test_lengths-2.ensures c.in_err-test_lengths-2.was)

pub returns-in_err-test_order : goal.returns-in_err-test_order
returns-in_err-test_order c =
    rw (told c.from_residual-in_err-test_order.ensures.1) (both_order _ _ _ c.test_points.ensures c.in_ok-points.was c.test_size.ensures c.in_ok-test_size.was c.test_size-2.ensures c.in_ok-test_size-2.was c.test_lengths.ensures c.in_ok-test_lengths.was c.test_lengths-2.ensures c.in_ok-test_lengths-2.was c.test_order.ensures c.in_err-test_order.was)

pub returns : goal.returns
returns c = both_done _ _ _ c.test_points.ensures c.in_ok-points.was c.test_size.ensures c.in_ok-test_size.was c.test_size-2.ensures c.in_ok-test_size-2.was c.test_lengths.ensures c.in_ok-test_lengths.was c.test_lengths-2.ensures c.in_ok-test_lengths-2.was c.test_order.ensures c.in_ok-test_order.was
