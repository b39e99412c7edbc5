-- `marking::listing::list_pairs` meets its contract: each way out has its lemma in `ListingAnswers`. Assumes nothing.
use mathlib.Core.Path.{refl}
use Rattle.lengths.proofs.Refusals.{told}
use Rattle.marking.proofs.ListingAnswers.{listed_refused, listed_listable, listed_tested}
use Rattle.marking.proofs.listing.list_pairs.Goals as goal

pub list_tested-requires : goal.list_tested-requires
list_tested-requires c = listed_listable _ _ _ c.test_instance.ensures c.in_ok-points.was

pub returns : goal.returns
returns c = listed_tested _ _ _ _ _ _ c.test_instance.ensures c.in_ok-points.was c.list_tested.ensures

pub returns-in_err-points : goal.returns-in_err-points
returns-in_err-points c =
    rw (told c.from_residual.ensures.1) (listed_refused _ _ _ _ _ _ c.test_instance.ensures c.in_err-points.was refl)
