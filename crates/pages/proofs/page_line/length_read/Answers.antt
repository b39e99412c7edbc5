-- `pages::page_line::length_read` meets its contract: the value of its columns. Assumes nothing.
use Rattle.pages.specs.PageLine.{length_read}
use Rattle.pages.proofs.page_line.length_read.Goals as goal

pub returns : goal.returns
unfolding length_read
returns c = c.value_of.ensures
