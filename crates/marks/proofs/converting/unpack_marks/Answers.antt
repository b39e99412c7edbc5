-- `marks::converting::unpack_marks` meets its contract: each way out has its lemma in `Packing`. Assumes nothing.
use mathlib.Core.Path.{sym, ◌∙◌}
use Rattle.lengths.proofs.Refusals.{told}
use Rattle.lengths.proofs.Instances.{Admits, admitted}
use Rattle.marks.proofs.PackedSets.{points_edges}
use Rattle.marks.proofs.Packing.{unpack_points, unpack_set, unpack_size, unpack_room, unpack_done}
use Rattle.marks.proofs.converting.unpack_marks.Goals as goal
use Rattle.marks.proofs.converting.unpack_marks.Goals.{then-not-well_packed-via-then-not-well_packed, then-not-well_packed-via-else-not-well_packed+then-bytes-count}

pub returns-in_err-points : goal.returns-in_err-points
returns-in_err-points c =
    rw (told c.from_residual.ensures.1) (unpack_points _ _ (sym c.admit.ensures ∙ c.in_err-points.was))

pub well_packed-requires : goal.well_packed-requires
well_packed-requires c =
    let admits : Admits c.args.n c.in_ok-points.field-0 = admitted (sym c.admit.ensures ∙ c.in_ok-points.was) in
    points_edges admits

pub returns-then-not-well_packed : goal.returns-then-not-well_packed
returns-then-not-well_packed c =
    let admits : Admits c.args.n c.in_ok-points.field-0 = admitted (sym c.admit.ensures ∙ c.in_ok-points.was) in
    rw c.into.ensures
    (elim c.then-not-well_packed.branch [
      | then-not-well_packed-via-then-not-well_packed w ↦ unpack_set _ _ admits c.well_packed.ensures w.if-not-well_packed.true
      | then-not-well_packed-via-else-not-well_packed+then-bytes-count w ↦
          unpack_size _ _ admits c.well_packed.ensures w.if-not-well_packed.false (λ e. w.if-bytes-count.true (e ∙ sym w.count.ensures))
    ])

pub unpack_all-requires : goal.unpack_all-requires
unpack_all-requires c =
    let admits : Admits c.args.n c.in_ok-points.field-0 = admitted (sym c.admit.ensures ∙ c.in_ok-points.was) in
    unpack_room _ c.args.bytes.now admits c.well_packed.ensures c.if-not-well_packed.false (c.if-bytes-count.false ∙ c.count.ensures)

pub returns : goal.returns
returns c =
    let admits : Admits c.args.n c.in_ok-points.field-0 = admitted (sym c.admit.ensures ∙ c.in_ok-points.was) in
    unpack_done _ _ admits c.well_packed.ensures c.if-not-well_packed.false (c.if-bytes-count.false ∙ c.count.ensures) c.unpack_all.ensures
