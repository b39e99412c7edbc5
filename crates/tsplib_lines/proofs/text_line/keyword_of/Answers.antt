-- `tsplib_lines::text_line::keyword_of` meets its contract: the table's words are the definition's. Assumes nothing.
use Rattle.tsplib_lines.specs.TextLine.{named, keyword_of}
use Rattle.tsplib_lines.proofs.text_line.keyword_of.Goals as goal

pub returns : goal.returns
unfolding named keyword_of
returns c = c.named.ensures
