-- `desks::turn::put_back` meets its contract: by what came of the sheet. Assumes nothing.
use Rattle.desks.proofs.TurnAnswers.{put_waits, put_ended}
use Rattle.desks.proofs.turn.put_back.Goals as goal

pub returns-in-Waits : goal.returns-in-Waits
returns-in-Waits c = put_waits c.in-Waits.is c.set_desk.ensures

pub returns-in-Ended : goal.returns-in-Ended
returns-in-Ended c = put_ended c.in-Ended.is c.set_desk-in-Ended.ensures
