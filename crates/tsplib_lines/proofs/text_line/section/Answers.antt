-- `tsplib_lines::text_line::section` meets its contract: the table's words are the definition's. Assumes nothing.
use mathlib.Core.Path.{◌∙◌, ap}
use Rattle.std.specs.Prelude.{Option, unwrap_or}
use Rattle.tsplib_lines.specs.TextLine.{named, section_of}
use Rattle.tsplib_lines.specs.declared.text_line.TalliedLine.{TalliedLine}
use Rattle.tsplib_lines.specs.declared.text_line.TalliedLine.TheVariants.{Other}
use Rattle.tsplib_lines.proofs.LineReading.{section_told}
use Rattle.tsplib_lines.proofs.text_line.section.Goals as goal

pub returns : goal.returns
unfolding named section_of
returns c = c.unwrap_or.ensures ∙ ap (λ (o : Option TalliedLine). unwrap_or o Other) c.named.ensures ∙ section_told _ _ _
