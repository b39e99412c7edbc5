-- `marks::fresh::fresh_marks` meets its contract: each way out has its lemma in `FreshMarks`. Assumes nothing.
use Prim.Native.Nat.{ℕ}
use mathlib.Core.Path.{sym, ◌∙◌, ap}
use lib.ListN.{replicate}
use Rattle.lengths.proofs.Refusals.{told}
use Rattle.lengths.proofs.Instances.{Admits, admitted}
use Rattle.marks.specs.Mark.{open_mark}
use Rattle.marks.specs.Packed.{packed}
use Rattle.marks.proofs.FreshMarks.{refused_fresh_points, refused_fresh_size, made_fresh}
use Rattle.marks.proofs.fresh.fresh_marks.Goals as goal

pub returns-in_err-points : goal.returns-in_err-points
returns-in_err-points c =
    rw (told c.from_residual.ensures.1) (refused_fresh_points (sym c.admit.ensures ∙ c.in_err-points.was))

pub returns-then-set-size : goal.returns-then-set-size
returns-then-set-size c =
    let admits : Admits c.args.n c.in_ok-points.field-0 = admitted (sym c.admit.ensures ∙ c.in_ok-points.was) in
    rw c.into.ensures (refused_fresh_size admits (λ e. c.if-set-size.true (e ∙ sym c.size.ensures)))

pub returns : goal.returns
returns c =
    let admits : Admits c.args.n c.in_ok-points.field-0 = admitted (sym c.admit.ensures ∙ c.in_ok-points.was) in
    made_fresh admits (c.if-set-size.false ∙ c.size.ensures) (c.open_all.ensures ∙ ap (λ (e : ℕ). packed (replicate e open_mark)) c.count.ensures)
