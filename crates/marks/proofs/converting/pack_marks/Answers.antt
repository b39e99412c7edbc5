-- `marks::converting::pack_marks` meets its contract: each way out has its lemma in `Packing`. Assumes nothing.
use mathlib.Core.Path.{sym, ◌∙◌}
use Rattle.lengths.proofs.Refusals.{told}
use Rattle.lengths.proofs.Instances.{Admits, admitted}
use Rattle.marks.proofs.Packing.{pack_points, pack_bytes, pack_size, pack_asked, pack_done}
use Rattle.marks.proofs.converting.pack_marks.Goals as goal
use Rattle.marks.proofs.converting.pack_marks.Goals.{then-not-is_byte_set-via-then-not-is_byte_set, then-not-is_byte_set-via-else-not-is_byte_set+then-set-size}

pub returns-in_err-points : goal.returns-in_err-points
returns-in_err-points c =
    rw (told c.from_residual.ensures.1) (pack_points _ _ (sym c.admit.ensures ∙ c.in_err-points.was))

pub returns-then-not-is_byte_set : goal.returns-then-not-is_byte_set
returns-then-not-is_byte_set c =
    let admits : Admits c.args.n c.in_ok-points.field-0 = admitted (sym c.admit.ensures ∙ c.in_ok-points.was) in
    rw c.into.ensures
    (elim c.then-not-is_byte_set.branch [
      | then-not-is_byte_set-via-then-not-is_byte_set w ↦ pack_bytes _ _ admits c.is_byte_set.ensures w.if-not-is_byte_set.true
      | then-not-is_byte_set-via-else-not-is_byte_set+then-set-size w ↦
          pack_size _ _ admits c.is_byte_set.ensures w.if-not-is_byte_set.false (λ e. w.if-set-size.true (e ∙ sym w.size.ensures))
    ])

pub pack_all-requires : goal.pack_all-requires
pack_all-requires c =
    let admits : Admits c.args.n c.in_ok-points.field-0 = admitted (sym c.admit.ensures ∙ c.in_ok-points.was) in
    pack_asked _ _ admits c.is_byte_set.ensures c.if-not-is_byte_set.false (c.if-set-size.false ∙ c.size.ensures)

pub returns : goal.returns
returns c =
    let admits : Admits c.args.n c.in_ok-points.field-0 = admitted (sym c.admit.ensures ∙ c.in_ok-points.was) in
    pack_done _ _ admits c.is_byte_set.ensures c.if-not-is_byte_set.false (c.if-set-size.false ∙ c.size.ensures) c.pack_all.ensures
