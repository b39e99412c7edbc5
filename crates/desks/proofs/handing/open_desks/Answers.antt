-- `desks::handing::open_desks` meets its contract: both ways out have their lemma in `HandInAnswers`. Assumes nothing.
use Rattle.desks.proofs.HandInAnswers.{open_short, open_done}
use Rattle.desks.proofs.handing.open_desks.Goals as goal

pub returns-then-desks-lt-STATE_BYTES : goal.returns-then-desks-lt-STATE_BYTES
returns-then-desks-lt-STATE_BYTES c = open_short c.if-desks-lt-STATE_BYTES.true

pub returns : goal.returns
returns c = open_done c.if-desks-lt-STATE_BYTES.false c.encode16.ensures
