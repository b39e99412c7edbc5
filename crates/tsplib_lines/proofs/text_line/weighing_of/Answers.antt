-- `tsplib_lines::text_line::weighing_of` meets its contract: the table's words are the definition's. Assumes nothing.
use Rattle.tsplib_lines.specs.TextLine.{named, weighing_of}
use Rattle.tsplib_lines.proofs.text_line.weighing_of.Goals as goal

pub returns : goal.returns
unfolding named weighing_of
returns c = c.named.ensures
