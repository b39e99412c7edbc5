-- `tsplib_lines::text_line::word_line` meets its contract. Assumes nothing.
use mathlib.Core.Path.{refl, sym, ◌∙◌}
use Rattle.tsplib_lines.proofs.LineReading.{no_colon, a_colon, whole_line, keyword_line, part_end}
use Rattle.tsplib_lines.proofs.text_line.word_line.Goals as goal

pub returns-in_default : goal.returns-in_default
returns-in_default c = whole_line _ (no_colon _ (sym c.find.ensures ∙ c.in_default.is)) c.section.ensures

pub returns-in-Some-keyword_of : goal.returns-in-Some-keyword_of
returns-in-Some-keyword_of c =
    keyword_line _ (a_colon _ (sym c.find.ensures ∙ c.in-Some.is)) (sym c.keyword_of.ensures ∙ c.in-Some-keyword_of.is) (rw part_end at c.valued_line.ensures)

pub returns-in-None : goal.returns-in-None
returns-in-None c = keyword_line _ (a_colon _ (sym c.find.ensures ∙ c.in-Some.is)) (sym c.keyword_of.ensures ∙ c.in-None.is) refl
