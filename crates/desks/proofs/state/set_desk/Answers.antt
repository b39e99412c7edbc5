-- `desks::state::set_desk` meets its contract: each number is written in its place. Assumes nothing.
use Rattle.desks.proofs.States.{desk_set}
use Rattle.desks.proofs.state.set_desk.Goals as goal

pub returns : goal.returns
returns c = desk_set c.put.ensures
    c.put-2.ensures c.put-3.ensures
