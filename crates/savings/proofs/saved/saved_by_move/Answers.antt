-- `savings::saved::saved_by_move` meets its contract: each way out has its lemma in `SavedAnswers`. Assumes nothing.
use Prim.Native.Nat.{ℕ}
use mathlib.Core.Path.{sym, ◌∙◌}
use Rattle.std.proofs.lemmas.Result.{err_from_is_err_and}
use Rattle.endian.specs.Bytes.{whole32}
use Rattle.lengths.specs.Table.{length_of}
use Rattle.lengths.proofs.SignedSavings.{kept}
use Rattle.lengths.proofs.Tables.{length_small}
use Rattle.admission.proofs.Passed.{table_passed, table_lengths}
use Rattle.rules.specs.Pair.{move_saving}
use Rattle.rules.specs.PairTest.{every}
use Rattle.savings.specs.Saved.{move_saved}
use Rattle.savings.proofs.EdgeSpans.{three_spans}
use Rattle.savings.proofs.SavedAnswers.{refused_tests, refused_edges, tells, move_small}
use Rattle.savings.proofs.saved.saved_by_move.Goals as goal

pub returns-in_err-points : goal.returns-in_err-points
unfolding move_saved
returns-in_err-points c =
    let p = err_from_is_err_and c.from_residual.result c.from_residual.ensures.1 in
    rw (p.1, p.2) (refused_tests _ _ _ _ (sym c.test_table.ensures ∙ c.in_err-points.was))

pub returns-then-not-all_edges : goal.returns-then-not-all_edges
unfolding move_saved every
returns-then-not-all_edges c =
    rw c.from.ensures (refused_edges _ _ _ _ (sym c.test_table.ensures ∙ c.in_ok-points.was) (sym c.all_edges.ensures ∙ c.if-not-all_edges.true))

pub move_saving-requires : goal.move_saving-requires
unfolding every
move_saving-requires c =
    let lengths = table_lengths (table_passed (sym c.test_table.ensures ∙ c.in_ok-points.was)) in
    let s = three_spans lengths.whole _ _ _ _ _ (sym c.all_edges.ensures ∙ c.if-not-all_edges.false) in (s, s)

pub returns : goal.returns
unfolding move_saved every
returns c =
    let a = c.args in
    let told = sym c.test_table.ensures ∙ c.in_ok-points.was in
    let l = length_of c.in_ok-points.points (whole32 a.table.now) in
    tells _ _ _ (λ (k : ℕ). move_saving (length_of k (whole32 a.table.now)) (length_of k (whole32 a.table.now)) a.c a.x a.y a.u a.v) told
    (sym c.all_edges.ensures ∙ c.if-not-all_edges.false) (kept c.move_saving.type_inv ∙ c.move_saving.ensures)
    (move_small l (length_small (table_lengths (table_passed told))) a.c a.x a.y a.u a.v)
