-- `marks::pending::resolve` meets its contract: each way out has its lemma in `Resolving`. Assumes nothing.
use mathlib.Core.Path.{sym, ◌∙◌}
use native.Mathlib.Omega.{arith}
use Rattle.lengths.proofs.Refusals.{told}
use Rattle.lengths.proofs.Instances.{Admits, admitted}
use Rattle.marks.proofs.PackedSets.{points_edges}
use Rattle.marks.proofs.Resolving.{refused_points, refused_set, refused_nothing, done}
use Rattle.marks.proofs.pending.resolve.Goals as goal

pub returns-in_err-points : goal.returns-in_err-points
returns-in_err-points c =
    rw (told c.from_residual.ensures.1) (refused_points _ (sym c.admit.ensures ∙ c.in_err-points.was))

pub well_packed-requires : goal.well_packed-requires
well_packed-requires c =
    let admits : Admits c.args.n c.in_ok-points.field-0 = admitted (sym c.admit.ensures ∙ c.in_ok-points.was) in
    points_edges admits

pub returns-then-not-well_packed : goal.returns-then-not-well_packed
returns-then-not-well_packed c =
    let admits : Admits c.args.n c.in_ok-points.field-0 = admitted (sym c.admit.ensures ∙ c.in_ok-points.was) in
    rw c.into.ensures (refused_set _ admits c.well_packed.ensures c.if-not-well_packed.true)

pub returns-then-marks_within : goal.returns-then-marks_within
returns-then-marks_within c =
    let admits : Admits c.args.n c.in_ok-points.field-0 = admitted (sym c.admit.ensures ∙ c.in_ok-points.was) in
    rw c.into-then-marks_within.ensures (refused_nothing _ admits c.well_packed.ensures c.if-not-well_packed.false c.marks_within.ensures c.if-marks_within.true)

pub returns : goal.returns
returns c =
    let admits : Admits c.args.n c.in_ok-points.field-0 = admitted (sym c.admit.ensures ∙ c.in_ok-points.was) in
    done _ admits c.well_packed.ensures c.if-not-well_packed.false (omega (arith, c.requires)) c.marks_within.ensures c.if-marks_within.false c.resolve_all.ensures
