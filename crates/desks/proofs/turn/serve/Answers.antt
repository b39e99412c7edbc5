-- `desks::turn::serve` meets its contract: the desk's numbers are read, its line is marked, and what is left is
-- written. Assumes nothing.
use Rattle.desks.proofs.TurnAnswers.{desk_served}
use Rattle.desks.proofs.turn.serve.Goals as goal

pub returns : goal.returns
returns c = desk_served _ _ _ _ _ _
    c.number_at-index.ensures c.number_at-owner.ensures c.number_at-lines.ensures c.turn_sheet-served.ensures c.put_back.ensures c.put.ensures
