-- `pages::writing::write_page` meets its contract: each way out has its lemma in `WriteAnswers`. What is promised of a
-- page that is written stands first. Assumes nothing.
use native.Mathlib.Omega.{arith}
use mathlib.Core.Path.{sym, ◌∙◌}
use Rattle.std.proofs.lemmas.Result.{err_from_is_err_and}
use Rattle.pages.proofs.PageParts.{paged}
use Rattle.pages.proofs.WriteAnswers.{write_tests, write_page, part_of, write_short, write_asked, write_few, write_done}
use Rattle.pages.proofs.writing.write_page.Goals as goal

pub returns : goal.returns
returns c = write_done _ _ _ (sym c.test_instance.ensures ∙ c.in_ok-points.was) (paged (sym c.page_of.ensures ∙ c.in_ok-first.was)) c.put_lines-size.ensures c.if-text-lines.false

pub returns-in_err-points : goal.returns-in_err-points
returns-in_err-points c =
    let p = err_from_is_err_and c.from_residual.result c.from_residual.ensures.1 in
    rw (p.1, p.2) (write_tests (sym c.in_err-points.ensures))

pub returns-in_err-first : goal.returns-in_err-first
returns-in_err-first c =
    let p = err_from_is_err_and c.from_residual-in_err-first.result c.from_residual-in_err-first.ensures.1 in
    rw (p.1, p.2) (write_page _ _ _ (sym c.test_instance.ensures ∙ c.in_ok-points.was) (sym c.in_err-first.ensures))

pub overflow_mul-lines : goal.overflow_mul-lines
overflow_mul-lines c = omega (arith, (part_of _ _ _ (sym c.test_instance.ensures ∙ c.in_ok-points.was) (paged (sym c.page_of.ensures ∙ c.in_ok-first.was))).most)

pub returns-then-text-lines : goal.returns-then-text-lines
returns-then-text-lines c = rw c.into.ensures (write_short _ _ _ (sym c.test_instance.ensures ∙ c.in_ok-points.was) (paged (sym c.page_of.ensures ∙ c.in_ok-first.was)) _ c.if-text-lines.true)

pub put_lines-size-requires : goal.put_lines-size-requires
put_lines-size-requires c = write_asked _ _ _ (sym c.test_instance.ensures ∙ c.in_ok-points.was) (paged (sym c.page_of.ensures ∙ c.in_ok-first.was)) c.if-text-lines.false

pub overflow_cast-result : goal.overflow_cast-result
overflow_cast-result c = omega (arith, write_few _ _ _ (sym c.test_instance.ensures ∙ c.in_ok-points.was) (paged (sym c.page_of.ensures ∙ c.in_ok-first.was)) c.put_lines-size.ensures)
