-- `revosti::desk::revosti_turn` meets its contract: the desk that is served is one of the eight. Assumes nothing.
use Rattle.revosti.proofs.DeskAnswers.{turn_few}
use Rattle.revosti.proofs.desk.revosti_turn.Goals as goal

pub turned_number-requires : goal.turned_number-requires
turned_number-requires c = turn_few _ _ _ _ _ c.turn.ensures
