-- `pages::reading::read_page` meets its contract: each way out has its lemma in `ReadAnswers`. What is promised of a page
-- that is read stands first. Assumes nothing.
use native.Mathlib.Omega.{arith}
use mathlib.Core.Path.{sym, ◌∙◌}
use Rattle.std.proofs.lemmas.Result.{err_from_is_err_and}
use Rattle.pages.proofs.PageParts.{paged}
use Rattle.pages.proofs.ReadAnswers.{read_tests, read_page, part_of, wrong_small, read_wrong, read_surplus, lengths_asked, marks_asked, read_done}
use Rattle.pages.proofs.reading.read_page.Goals.{then-wrong-lines-via-then-wrong-lines, then-wrong-lines-via-else-wrong-lines+then-text-lines}
use Rattle.pages.proofs.reading.read_page.Goals as goal

pub returns : goal.returns
returns c =
    read_done _ _ _ (sym c.test_places.ensures ∙ c.in_ok-points.was) (paged (sym c.page_of.ensures ∙ c.in_ok-first.was)) _ c.wrong_line-wrong.ensures c.if-wrong-lines.false c.if-text-lines.false
    c.store_lengths.ensures c.store_marks.ensures

pub returns-in_err-points : goal.returns-in_err-points
returns-in_err-points c =
    let p = err_from_is_err_and c.from_residual.result c.from_residual.ensures.1 in
    rw (p.1, p.2) (read_tests (sym c.in_err-points.ensures))

pub returns-in_err-first : goal.returns-in_err-first
returns-in_err-first c =
    let p = err_from_is_err_and c.from_residual-in_err-first.result c.from_residual-in_err-first.ensures.1 in
    rw (p.1, p.2) (read_page _ _ _ (sym c.test_places.ensures ∙ c.in_ok-points.was) (sym c.in_err-first.ensures))

pub wrong_line-wrong-requires : goal.wrong_line-wrong-requires
wrong_line-wrong-requires c = part_of _ _ _ (sym c.test_places.ensures ∙ c.in_ok-points.was) (paged (sym c.page_of.ensures ∙ c.in_ok-first.was))

pub overflow_mul-lines : goal.overflow_mul-lines
overflow_mul-lines c = omega (arith, (part_of _ _ _ (sym c.test_places.ensures ∙ c.in_ok-points.was) (paged (sym c.page_of.ensures ∙ c.in_ok-first.was))).most)

pub overflow_cast-result : goal.overflow_cast-result
overflow_cast-result c = omega (arith, wrong_small _ _ _ (sym c.test_places.ensures ∙ c.in_ok-points.was) (paged (sym c.page_of.ensures ∙ c.in_ok-first.was)) _ c.wrong_line-wrong.ensures)

pub returns-then-wrong-lines : goal.returns-then-wrong-lines
returns-then-wrong-lines c = elim c.then-wrong-lines.branch [
  | then-wrong-lines-via-then-wrong-lines w ↦ read_wrong _ _ _ (sym c.test_places.ensures ∙ c.in_ok-points.was) (paged (sym c.page_of.ensures ∙ c.in_ok-first.was)) _ c.wrong_line-wrong.ensures w.if-wrong-lines.true
  | then-wrong-lines-via-else-wrong-lines+then-text-lines w ↦ read_surplus _ _ _ (sym c.test_places.ensures ∙ c.in_ok-points.was) (paged (sym c.page_of.ensures ∙ c.in_ok-first.was)) _ c.wrong_line-wrong.ensures w.if-text-lines.true
]

pub store_lengths-requires : goal.store_lengths-requires
store_lengths-requires c =
    lengths_asked _ _ _ (sym c.test_places.ensures ∙ c.in_ok-points.was) (paged (sym c.page_of.ensures ∙ c.in_ok-first.was)) _ c.wrong_line-wrong.ensures c.if-wrong-lines.false c.if-text-lines.false

pub store_marks-requires : goal.store_marks-requires
store_marks-requires c =
    marks_asked _ _ _ (sym c.test_places.ensures ∙ c.in_ok-points.was) (paged (sym c.page_of.ensures ∙ c.in_ok-first.was)) _ c.wrong_line-wrong.ensures c.if-wrong-lines.false c.if-text-lines.false
