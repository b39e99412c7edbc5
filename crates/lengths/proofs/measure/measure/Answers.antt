-- `lengths::measure::measure` meets its contract: each way out has its lemma in `Measuring`. Assumes nothing.
use mathlib.Core.Path.{sym, ◌∙◌}
use borrow.Author.Tests.{not-true, not-false}
use Rattle.lengths.proofs.Refusals.{told}
use Rattle.endian.specs.Bytes.{whole32}
use Rattle.lengths.proofs.Instances.{Admits, admitted}
use Rattle.lengths.proofs.Measuring.{Sized, sized, named, refused_points, refused_coordinates, refused_table, refused_rule, refused_limit, done, fillable}
use Rattle.lengths.proofs.measure.measure.Goals as goal
use Rattle.lengths.proofs.measure.measure.Goals.{then-count_of-points-via-then-count_of-points, then-count_of-points-via-else-count_of-points+then-count_of-count}

pub returns-in_err-points : goal.returns-in_err-points
returns-in_err-points c =
    rw (told c.from_residual.ensures.1) (refused_points (sym c.admit.ensures ∙ c.in_err-points.was))

pub returns-then-count_of-points : goal.returns-then-count_of-points
returns-then-count_of-points c =
    let admits : Admits c.args.n c.in_ok-points.field-0 = admitted (sym c.admit.ensures ∙ c.in_ok-points.was) in
    rw c.into.ensures
    (elim c.then-count_of-points.branch [
      | then-count_of-points-via-then-count_of-points w ↦ refused_coordinates admits (λ e. w.if-count_of-points.true (c.count_of.ensures ∙ e))
      | then-count_of-points-via-else-count_of-points+then-count_of-count w ↦
          refused_table admits (sym c.count_of.ensures ∙ w.if-count_of-points.false) (λ e. w.if-count_of-count.true (w.count_of-else-count_of-points.ensures ∙ e ∙ sym w.count.ensures))
    ])

pub returns-in_err-rule : goal.returns-in_err-rule
returns-in_err-rule c =
    let admits : Admits c.args.n c.in_ok-points.field-0 = admitted (sym c.admit.ensures ∙ c.in_ok-points.was) in
    let sizes : Sized c.args.n c.in_ok-points.field-0 (whole32 c.args.coordinates.now) c.args.table.now =
    sized admits (sym c.count_of.ensures ∙ c.if-count_of-points.false) (sym c.count_of-else-count_of-points.ensures ∙ c.if-count_of-count.false ∙ c.count.ensures) in
    rw (told c.from_residual-in_err-rule.ensures.1) (refused_rule sizes (sym c.try_from.ensures ∙ c.in_err-rule.was))

pub returns-then-not-all_at_most : goal.returns-then-not-all_at_most
returns-then-not-all_at_most c =
    let admits : Admits c.args.n c.in_ok-points.field-0 = admitted (sym c.admit.ensures ∙ c.in_ok-points.was) in
    let sizes : Sized c.args.n c.in_ok-points.field-0 (whole32 c.args.coordinates.now) c.args.table.now =
    sized admits (sym c.count_of.ensures ∙ c.if-count_of-points.false) (sym c.count_of-else-count_of-points.ensures ∙ c.if-count_of-count.false ∙ c.count.ensures) in
    rw c.into-then-not-all_at_most.ensures
    (refused_limit sizes (named c.args.rule (sym c.try_from.ensures ∙ c.in_ok-rule.was)) (sym c.all_at_most.ensures ∙ not-true _ c.if-not-all_at_most.true-raw))

pub fill-requires : goal.fill-requires
fill-requires c =
    let admits : Admits c.args.n c.in_ok-points.field-0 = admitted (sym c.admit.ensures ∙ c.in_ok-points.was) in
    let sizes : Sized c.args.n c.in_ok-points.field-0 (whole32 c.args.coordinates.now) c.args.table.now =
    sized admits (sym c.count_of.ensures ∙ c.if-count_of-points.false) (sym c.count_of-else-count_of-points.ensures ∙ c.if-count_of-count.false ∙ c.count.ensures) in
    fillable sizes (sym c.all_at_most.ensures ∙ not-false _ c.if-not-all_at_most.false-raw)

pub returns : goal.returns
returns c =
    let admits : Admits c.args.n c.in_ok-points.field-0 = admitted (sym c.admit.ensures ∙ c.in_ok-points.was) in
    let sizes : Sized c.args.n c.in_ok-points.field-0 (whole32 c.args.coordinates.now) c.args.table.now =
    sized admits (sym c.count_of.ensures ∙ c.if-count_of-points.false) (sym c.count_of-else-count_of-points.ensures ∙ c.if-count_of-count.false ∙ c.count.ensures) in
    done sizes (named c.args.rule (sym c.try_from.ensures ∙ c.in_ok-rule.was)) (sym c.all_at_most.ensures ∙ not-false _ c.if-not-all_at_most.false-raw) c.fill.ensures
