-- `reasons::line_text::tell_pair` meets its contract, for either outcome. Assumes nothing.
use Rattle.reasons.proofs.LineTexts.{told_shut, told_stands}
use Rattle.reasons.proofs.line_text.tell_pair.Goals as goal

pub returns-in-Some : goal.returns-in-Some
returns-in-Some c = told_shut _ _ c.pair_outcome.ensures c.in-Some.is

pub returns-in-None : goal.returns-in-None
returns-in-None c =
    told_stands _ _ c.pair_outcome.ensures c.in-None.is
    c.field.ensures c.field-in-None.ensures
