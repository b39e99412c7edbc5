-- `tsplib_lines::text_line::read_line` meets its contract. Assumes nothing.
use mathlib.Core.Path.{sym, ◌∙◌}
use Rattle.tsplib_lines.proofs.LineReading.{number_line_told, word_line_told}
use Rattle.tsplib_lines.proofs.text_line.read_line.Goals as goal

pub returns-in-Some : goal.returns-in-Some
returns-in-Some c = number_line_told _ (sym c.numbers_of.ensures ∙ c.in-Some.is)

pub returns-in-None : goal.returns-in-None
returns-in-None c = word_line_told _ (sym c.numbers_of.ensures ∙ c.in-None.is) c.word_line.ensures
