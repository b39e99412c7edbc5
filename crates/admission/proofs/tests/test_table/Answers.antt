-- `admission::tests::test_table` meets its contract: each way out has its lemma in `TestWays`. Assumes nothing.
use Rattle.lengths.proofs.Refusals.{told}
use Rattle.admission.proofs.TestWays.{table_points, table_size, table_limit, table_done}
use Rattle.admission.proofs.tests.test_table.Goals as goal

pub returns-in_err-points : goal.returns-in_err-points
returns-in_err-points c =
    rw (told c.from_residual.ensures.1) (table_points _ _ c.test_points.ensures c.in_err-points.was)

pub returns-in_err-test_size : goal.returns-in_err-test_size
returns-in_err-test_size c =
    rw (told c.from_residual-in_err-test_size.ensures.1) (table_size _ _ c.test_points.ensures c.in_ok-points.was c.test_size.ensures c.in_err-test_size.was)

pub returns-in_err-test_lengths : goal.returns-in_err-test_lengths
returns-in_err-test_lengths c =
    rw (told c.from_residual-in_err-test_lengths.ensures.1) (table_limit _ _ c.test_points.ensures c.in_ok-points.was c.test_size.ensures c.in_ok-test_size.was c.test_lengths.ensures c.in_err-test_lengths.was)

pub returns : goal.returns
returns c = table_done _ _ c.test_points.ensures c.in_ok-points.was c.test_size.ensures c.in_ok-test_size.was c.test_lengths.ensures c.in_ok-test_lengths.was
