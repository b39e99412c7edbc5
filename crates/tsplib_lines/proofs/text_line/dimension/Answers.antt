-- `tsplib_lines::text_line::dimension` meets its contract. Assumes nothing.
use mathlib.Core.Path.{sym, ◌∙◌}
use Rattle.tsplib_lines.proofs.LineReading.{dimension_none, dimension_many, dimension_one}
use Rattle.tsplib_lines.proofs.text_line.dimension.Goals as goal

pub returns-in-Some : goal.returns-in-Some
returns-in-Some c = dimension_one _ (sym c.numbers_of.ensures ∙ c.in-Some.is) c.if-tally-eq1.true

pub returns-in_default : goal.returns-in_default
returns-in_default c = dimension_many _ (sym c.numbers_of.ensures ∙ c.in-Some.is) c.if-tally-eq1.false

pub returns-in_default-2 : goal.returns-in_default-2
returns-in_default-2 c = dimension_none _ (sym c.numbers_of.ensures ∙ c.in_default.is)
