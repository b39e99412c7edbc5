-- `revosti::desk::served_number` meets its contract: a sheet that has ended has the number of its verdict. Assumes
-- nothing.
use Rattle.revosti.proofs.DeskAnswers.{ended_number}
use Rattle.revosti.proofs.desk.served_number.Goals as goal

pub returns-in-Ended : goal.returns-in-Ended
returns-in-Ended c = ended_number _ c.in-Ended.is c.marked_number.ensures
