-- `tsplib::reading::tsplib_points` meets its contract. Assumes nothing.
use mathlib.Core.Path.{sym, ◌∙◌, ap}
use Rattle.std.proofs.lemmas.Result.{err_from_is_err_and}
use Rattle.tsplib.specs.Reading.{points_of}
use Rattle.tsplib.proofs.reading.tsplib_points.Goals as goal

pub returns-in_err-judge : goal.returns-in_err-judge
unfolding points_of
returns-in_err-judge c =
    let p = err_from_is_err_and c.from_residual.result c.from_residual.ensures.1 in
    rw (p.1, p.2) (sym (ap points_of (sym c.judge.ensures ∙ c.in_err-judge.was)))

pub returns : goal.returns
unfolding points_of
returns c = sym (ap points_of (sym c.judge.ensures ∙ c.in_ok-judge.was))
