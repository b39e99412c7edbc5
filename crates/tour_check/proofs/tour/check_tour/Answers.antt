-- `tour_check::tour::check_tour` meets its contract: each way out has its lemma in `TourAnswers`. Assumes nothing.
use mathlib.Core.Path.{sym, ◌∙◌}
use Rattle.std.proofs.lemmas.Result.{err_from_is_err_and}
use Rattle.tour_check.proofs.TourAnswers.{admitted, toured, refused_tests, refused_tour, asked_table, asked_marks, checked_tour, checked_set}
use Rattle.tour_check.proofs.tour.check_tour.Goals as goal

pub returns-in_err-points : goal.returns-in_err-points
returns-in_err-points c =
    let p = err_from_is_err_and c.from_residual.result c.from_residual.ensures.1 in
    rw (p.1, p.2) (refused_tests (sym c.test_instance.ensures ∙ c.in_err-points.was))

pub each_once-requires : goal.each_once-requires
each_once-requires c = (admitted _ c.test_instance.ensures c.in_ok-points.was).lengths.few

pub returns-then-not-each_once : goal.returns-then-not-each_once
returns-then-not-each_once c =
    let p = admitted _ c.test_instance.ensures c.in_ok-points.was in
    rw c.from.ensures (checked_set _ p (refused_tour p (sym c.each_once.ensures ∙ c.if-not-each_once.true)))

pub length_of-requires : goal.length_of-requires
length_of-requires c =
    asked_table (toured (admitted _ c.test_instance.ensures c.in_ok-points.was) (sym c.each_once.ensures ∙ c.if-not-each_once.false))

pub all_open-requires : goal.all_open-requires
all_open-requires c =
    asked_marks (toured (admitted _ c.test_instance.ensures c.in_ok-points.was) (sym c.each_once.ensures ∙ c.if-not-each_once.false))

pub returns : goal.returns
returns c =
    let p = admitted _ c.test_instance.ensures c.in_ok-points.was in
    checked_set _ p (checked_tour (toured p (sym c.each_once.ensures ∙ c.if-not-each_once.false)) c.length_of.ensures c.all_open.ensures)
