-- `pages::page::page_of` meets its contract: each way out has its lemma in `PageParts`. Assumes nothing.
use Rattle.pages.proofs.PageParts.{page_zero, page_past, lines_there}
use Rattle.pages.proofs.page.page_of.Goals as goal

pub returns-then-page-lt1 : goal.returns-then-page-lt1
returns-then-page-lt1 c = page_zero _ _ c.if-page-lt1.true

pub returns-then-edges-first : goal.returns-then-edges-first
returns-then-edges-first c = page_past _ _ c.count-edges.ensures c.if-page-lt1.false c.if-edges-first.true

pub returns : goal.returns
returns c = lines_there _ _ c.count-edges.ensures c.if-page-lt1.false c.if-edges-first.false c.min.ensures
