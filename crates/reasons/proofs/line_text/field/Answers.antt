-- `reasons::line_text::field` meets its contract, past the sheet and in it. Assumes nothing.
use Rattle.reasons.proofs.LineTexts.{field_past, field_there}
use Rattle.reasons.proofs.line_text.field.Goals as goal

pub returns-then-count_of-at : goal.returns-then-count_of-at
returns-then-count_of-at c = field_past _ _ _ c.records_before.ensures c.count_of.ensures c.if-count_of-at.true

pub returns : goal.returns
returns c = field_there _ _ _ c.records_before.ensures c.number.ensures
