-- `tsplib::reading::read_weights` meets its contract. Assumes nothing.
use mathlib.Core.Path.{sym, ◌∙◌}
use Rattle.tsplib.proofs.TextsRead.{weights_points, weights_size, weights_limit, weights_room, weights_done}
use Rattle.std.proofs.lemmas.Result.{err_from_is_err_and}
use Rattle.lengths.proofs.Instances.{admitted}
use Rattle.tsplib.proofs.reading.read_weights.Goals as goal

pub returns-in_err-instance : goal.returns-in_err-instance
returns-in_err-instance c =
    let p = err_from_is_err_and c.from_residual.result c.from_residual.ensures.1 in
    rw (p.1, p.2) (weights_points _ c.requires (sym c.admit.ensures ∙ c.in_err-instance.was))

pub returns-then-count_of-count : goal.returns-then-count_of-count
returns-then-count_of-count c = rw c.into.ensures (weights_size _ c.requires (admitted (sym c.admit.ensures ∙ c.in_ok-instance.was)) (λ e. c.if-count_of-count.true (c.count_of.ensures ∙ e ∙ sym c.count.ensures)))

pub returns-then-maximum-gt-MOST_LENGTH : goal.returns-then-maximum-gt-MOST_LENGTH
returns-then-maximum-gt-MOST_LENGTH c = rw c.into-then-maximum-gt-MOST_LENGTH.ensures (weights_limit _ c.requires (admitted (sym c.admit.ensures ∙ c.in_ok-instance.was)) (sym c.count_of.ensures ∙ c.if-count_of-count.false ∙ c.count.ensures) c.if-maximum-gt-MOST_LENGTH.true)

pub gather-requires : goal.gather-requires
gather-requires c = weights_room _ c.requires (admitted (sym c.admit.ensures ∙ c.in_ok-instance.was)) (sym c.count_of.ensures ∙ c.if-count_of-count.false ∙ c.count.ensures)

pub returns : goal.returns
returns c = weights_done _ c.requires (admitted (sym c.admit.ensures ∙ c.in_ok-instance.was)) (sym c.count_of.ensures ∙ c.if-count_of-count.false ∙ c.count.ensures) c.if-maximum-gt-MOST_LENGTH.false c.gather.ensures
