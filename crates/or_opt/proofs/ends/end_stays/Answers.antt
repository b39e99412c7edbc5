-- `or_opt::ends::end_stays` meets its contract: the numbers are read from the rows and held against the edges of k.
-- Assumes nothing.
use mathlib.Core.Path.{refl}
use native.Mathlib.Omega.{arith}
use Rattle.or_opt.proofs.EndMoves.{end_room_c, end_room_next, end_room, end_taken, end_all, end_told}
use Rattle.or_opt.proofs.ends.end_stays.Goals as goal

pub length_in-requires : goal.length_in-requires
length_in-requires c = end_room_c c.requires c.row_start-at.ensures refl

pub length_in-requires-2 : goal.length_in-requires-2
length_in-requires-2 c = end_room_next c.requires c.row_start-at.ensures refl

pub overflow_add-taken : goal.overflow_add-taken
overflow_add-taken c = omega (arith, end_taken c.requires c.row_start-at.ensures refl c.length_in.ensures c.length_in-2.ensures refl)

pub length_in-given-requires : goal.length_in-given-requires
length_in-given-requires c = end_room c.requires c.row_start-at.ensures c.row_start.ensures

pub stays_at_all-requires : goal.stays_at_all-requires
stays_at_all-requires c = end_all c.requires c.row_start-at.ensures c.row_start.ensures c.length_in.ensures c.length_in-2.ensures c.length_in-given.ensures

pub returns : goal.returns
returns c = end_told c.requires c.row_start-at.ensures c.row_start.ensures c.length_in.ensures c.length_in-2.ensures c.length_in-given.ensures c.stays_at_all.ensures
