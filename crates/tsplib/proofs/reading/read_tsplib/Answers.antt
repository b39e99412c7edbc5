-- `tsplib::reading::read_tsplib` meets its contract. Assumes nothing.
use mathlib.Core.Path.{sym, ◌∙◌, ap}
use Rattle.std.proofs.lemmas.Result.{err_from_is_err_and}
use Rattle.tsplib.proofs.TextsRead.{weights_asked, coordinates_asked, read_fault, read_coordinates_as, read_weights_as}
use Rattle.tsplib.specs.Judging.{described}
use Rattle.tsplib_lines.specs.declared.text_line.Weighing.{Weighing}
use Rattle.tsplib.proofs.reading.read_tsplib.Goals as goal

pub returns-in_err-n : goal.returns-in_err-n
returns-in_err-n c =
    let p = err_from_is_err_and c.from_residual.result c.from_residual.ensures.1 in
    rw (p.1, p.2) (read_fault _ (sym c.judge.ensures ∙ c.in_err-n.was))

pub read_coordinates-requires : goal.read_coordinates-requires
read_coordinates-requires c = coordinates_asked (sym c.judge.ensures ∙ c.in_ok-n.was ∙ ap (λ (x : Weighing). described c.in_ok-n.field-0.n x c.in_ok-n.field-0.maximum) c.in-Rule.is)

pub read_weights-requires : goal.read_weights-requires
read_weights-requires c = weights_asked (sym c.judge.ensures ∙ c.in_ok-n.was ∙ ap (λ (x : Weighing). described c.in_ok-n.field-0.n x c.in_ok-n.field-0.maximum) c.in-Explicit.is)

pub returns-in-Rule : goal.returns-in-Rule
returns-in-Rule c = read_coordinates_as _ (sym c.judge.ensures ∙ c.in_ok-n.was ∙ ap (λ (x : Weighing). described c.in_ok-n.field-0.n x c.in_ok-n.field-0.maximum) c.in-Rule.is) c.read_coordinates.ensures

pub returns-in-Explicit : goal.returns-in-Explicit
returns-in-Explicit c = read_weights_as _ (sym c.judge.ensures ∙ c.in_ok-n.was ∙ ap (λ (x : Weighing). described c.in_ok-n.field-0.n x c.in_ok-n.field-0.maximum) c.in-Explicit.is) c.read_weights.ensures
