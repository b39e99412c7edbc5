-- `desks::state::next_of` meets its contract: `Seeking` holds at the loop's head. Assumes nothing.
use Prim.Native.Nat.{◌-◌}
use Rattle.desks.specs.State.{desk_count}
use Rattle.desks.proofs.RoundRobin.{Seeking}
use Rattle.desks.proofs.state.next_of.Given as goal

abbrev pub invariant-loop : goal.invariant-loop
invariant-loop l = Seeking l.desks l.desk (desk_count - l.counter)
