-- `or_opt::degree_two::move_between` meets its contract: the numbers are read from the rows, the legs are narrowed, and
-- the own leg is put back. Assumes nothing.
use mathlib.Core.Path.{refl}
use native.Mathlib.Omega.{arith}
use Rattle.or_opt.proofs.PointLegs.{room_s, room_t, room_c, room_st, taken_small, given_small, narrow_asks, moved_told}
use Rattle.or_opt.proofs.degree_two.move_between.Goals as goal

pub length_in-requires : goal.length_in-requires
length_in-requires c = room_s c.requires c.row_start-at.ensures refl

pub length_in-requires-2 : goal.length_in-requires-2
length_in-requires-2 c = room_t c.requires c.row_start-at.ensures refl

pub overflow_add-taken : goal.overflow_add-taken
overflow_add-taken c = omega (arith, taken_small c.requires c.row_start-at.ensures refl c.length_in.ensures c.length_in-2.ensures refl refl)

pub length_in-requires-3 : goal.length_in-requires-3
length_in-requires-3 c = room_c c.requires c.row_start-at.ensures refl

pub length_in-requires-4 : goal.length_in-requires-4
length_in-requires-4 c = room_st c.requires c.row_start-at.ensures c.row_start.ensures

pub overflow_add-given : goal.overflow_add-given
overflow_add-given c = omega (arith, given_small c.requires c.row_start-at.ensures c.row_start.ensures c.length_in.ensures c.length_in-2.ensures c.length_in-3.ensures c.length_in-4.ensures)

pub narrow-requires : goal.narrow-requires
narrow-requires c = narrow_asks c.requires c.row_start-at.ensures c.row_start.ensures c.length_in.ensures c.length_in-2.ensures c.length_in-3.ensures c.length_in-4.ensures

pub returns : goal.returns
returns c = moved_told c.requires c.row_start-at.ensures c.row_start.ensures c.length_in.ensures c.length_in-2.ensures c.length_in-3.ensures c.length_in-4.ensures c.narrow.ensures c.own_leg-own.ensures
