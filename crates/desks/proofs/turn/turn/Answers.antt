-- `desks::turn::turn` meets its contract: each return is a way out of the definition. Assumes nothing.
use Rattle.desks.proofs.TurnAnswers.{turn_short, turn_none, turn_serves, turn_served}
use Rattle.desks.proofs.turn.turn.Goals as goal

pub returns-then-desks-lt-STATE_BYTES : goal.returns-then-desks-lt-STATE_BYTES
returns-then-desks-lt-STATE_BYTES c = turn_short _ _ _ _ _ c.if-desks-lt-STATE_BYTES.true

pub serve-served-requires : goal.serve-served-requires
serve-served-requires c = turn_serves _ c.if-desks-lt-STATE_BYTES.false c.next_of.ensures c.in-Some.is

pub returns-in_default : goal.returns-in_default
returns-in_default c = turn_none _ _ _ _ _ c.if-desks-lt-STATE_BYTES.false c.next_of.ensures c.in_default.is

pub returns : goal.returns
returns c = turn_served _ _ _ _ _ c.if-desks-lt-STATE_BYTES.false c.next_of.ensures c.in-Some.is c.serve-served.ensures
