-- `desks::state::number_at` meets its contract: the first 50 bytes are whole numbers, and the number there is made of
-- its two bytes. Assumes nothing.
use Rattle.desks.proofs.States.{first_bytes, place_inside, number_read}
use mathlib.Core.Path.{sym}
use Rattle.desks.proofs.state.number_at.Goals as goal

pub slice_bounds-number-end : goal.slice_bounds-number-end
slice_bounds-number-end c = sym (first_bytes c.requires)

pub number-requires : goal.number-requires
number-requires c = place_inside c.requires

pub returns : goal.returns
returns c = number_read c.requires c.number.ensures
