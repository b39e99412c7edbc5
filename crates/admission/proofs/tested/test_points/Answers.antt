-- `admission::tested::test_points` meets its contract: each way out has its lemma in `TestWays`. Assumes nothing.
use mathlib.Core.Path.{sym, ◌∙◌}
use Rattle.lengths.proofs.Refusals.{told}
use Rattle.lengths.proofs.Instances.{admitted}
use Rattle.admission.proofs.TestWays.{points_refused, points_passed}
use Rattle.admission.proofs.tested.test_points.Goals as goal

pub returns-in_err-admit : goal.returns-in_err-admit
returns-in_err-admit c =
    rw (told c.from_residual.ensures.1) (points_refused c.args.n (sym c.admit.ensures ∙ c.in_err-admit.was))

pub returns : goal.returns
returns c = points_passed (admitted (sym c.admit.ensures ∙ c.in_ok-admit.was))
