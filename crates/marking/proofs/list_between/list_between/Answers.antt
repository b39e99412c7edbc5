-- `marking::list_between::list_between` meets its contract: each way out has its lemma in `BetweenLists`. Assumes
-- nothing.
use mathlib.Core.Path.{refl}
use Rattle.lengths.proofs.Refusals.{told}
use Rattle.marking.proofs.BetweenLists.{between_list_refused, between_listable, between_listed}
use Rattle.marking.proofs.list_between.list_between.Goals as goal

pub list_tested-requires : goal.list_tested-requires
list_tested-requires c = between_listable _ _ _ _ c.test_between.ensures c.in_ok-points.was

pub returns : goal.returns
returns c = between_listed _ _ _ _ _ _ _ c.test_between.ensures c.in_ok-points.was c.list_tested.ensures

pub returns-in_err-points : goal.returns-in_err-points
returns-in_err-points c =
    rw (told c.from_residual.ensures.1) (between_list_refused _ _ _ _ _ _ _ c.test_between.ensures c.in_err-points.was refl)
