-- `reasons::line_text::put_fitting` meets its contract, with no room and with room. Assumes nothing.
use Rattle.reasons.proofs.LineTexts.{no_room, sentence_put}
use Rattle.reasons.proofs.line_text.put_fitting.Goals as goal

pub returns-then-text-end : goal.returns-then-text-end
returns-then-text-end c = no_room c.sentence_length.ensures c.if-text-end.true

pub returns : goal.returns
returns c = sentence_put c.sentence_length.ensures c.put_sentence.ensures
