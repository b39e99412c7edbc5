-- `reasons::telling::tell_split` meets its contract: the text is counted first, and written where it fits. Assumes
-- nothing.
use Rattle.reasons.proofs.TellAnswers.{split_short, split_done}
use Rattle.reasons.proofs.telling.tell_split.Goals as goal

pub returns-then-text-length : goal.returns-then-text-length
returns-then-text-length c = rw c.into.ensures (split_short c.put_text-length.ensures c.if-text-length.true)

pub returns : goal.returns
returns c = split_done c.put_text-length.ensures c.if-text-length.false c.put_text-end.ensures
