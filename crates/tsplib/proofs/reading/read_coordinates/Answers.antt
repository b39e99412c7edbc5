-- `tsplib::reading::read_coordinates` meets its contract. Assumes nothing.
use mathlib.Core.Path.{refl, sym, ◌∙◌}
use Rattle.tsplib.proofs.TextsRead.{coordinates_points, buffer_asked}
use Rattle.lengths.proofs.Instances.{admitted}
use native.Mathlib.Omega.{arith}
use Rattle.std.proofs.lemmas.Result.{err_from_is_err_and}
use lib.Seq.{length-take-le}
use Rattle.tsplib.proofs.reading.read_coordinates.Goals as goal

pub returns-in_err-instance : goal.returns-in_err-instance
returns-in_err-instance c =
    let p = err_from_is_err_and c.from_residual.result c.from_residual.ensures.1 in
    rw (p.1, p.2) (coordinates_points _ _ c.requires (sym c.admit.ensures ∙ c.in_err-instance.was))

pub slice_bounds-coordinates-end : goal.slice_bounds-coordinates-end
slice_bounds-coordinates-end c = let m = admitted (sym c.admit.ensures ∙ c.in_ok-instance.was) in omega (arith, m.points, m.most, c.from-bytes.ensures)

pub slice_bounds-measure_gathered-end : goal.slice_bounds-measure_gathered-end
slice_bounds-measure_gathered-end c = let m = admitted (sym c.admit.ensures ∙ c.in_ok-instance.was) in sym (length-take-le _ _ (omega (arith, m.points, m.most, c.from-bytes.ensures)))

pub measure_gathered-requires : goal.measure_gathered-requires
measure_gathered-requires c = rw c.from-bytes.ensures (buffer_asked _ (admitted (sym c.admit.ensures ∙ c.in_ok-instance.was)) c.requires refl)
