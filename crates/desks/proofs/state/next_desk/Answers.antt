-- `desks::state::next_desk` meets its contract: both ways out have their lemma in `HandInAnswers`. Assumes nothing.
use Rattle.desks.proofs.HandInAnswers.{next_short, next_told}
use Rattle.desks.proofs.state.next_desk.Goals as goal

pub returns-then-desks-lt-STATE_BYTES : goal.returns-then-desks-lt-STATE_BYTES
returns-then-desks-lt-STATE_BYTES c = next_short _ c.if-desks-lt-STATE_BYTES.true

pub returns : goal.returns
returns c = next_told _ c.if-desks-lt-STATE_BYTES.false c.next_of.ensures
