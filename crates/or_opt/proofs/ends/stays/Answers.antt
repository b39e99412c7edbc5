-- `or_opt::ends::stays` meets its contract: each way out has its lemma in `EndMoves`. Assumes nothing.
use mathlib.Core.Path.{refl}
use native.Mathlib.Omega.{arith}
use Rattle.or_opt.proofs.EndMoves.{onto_from, onto_to, room_u, room_v, room_uv, small_u, small_new, small_old, onto_compared}
use Rattle.or_opt.proofs.ends.stays.Goals as goal
use Rattle.or_opt.proofs.ends.stays.Goals.{then-u-w-via-then-u-w, then-u-w-via-else-u-w+then-v-w}

pub returns-then-u-w : goal.returns-then-u-w
returns-then-u-w c = elim c.then-u-w.branch [
  | then-u-w-via-then-u-w w ↦ onto_from c.requires w.if-u-w.true
  | then-u-w-via-else-u-w+then-v-w w ↦ onto_to c.requires w.if-u-w.false w.if-v-w.true
]

pub length_in-requires : goal.length_in-requires
length_in-requires c = room_u c.requires c.row_start-at.ensures refl

pub overflow_add-new : goal.overflow_add-new
overflow_add-new c = omega (arith, small_u c.requires c.row_start-at.ensures refl c.length_in.ensures refl refl)

pub length_in-requires-2 : goal.length_in-requires-2
length_in-requires-2 c = room_v c.requires c.row_start-at.ensures refl

pub overflow_add-new-2 : goal.overflow_add-new-2
overflow_add-new-2 c = omega (arith, small_new c.requires c.row_start-at.ensures refl c.length_in.ensures c.length_in-2.ensures refl)

pub length_in-requires-3 : goal.length_in-requires-3
length_in-requires-3 c = room_uv c.requires c.row_start-at.ensures c.row_start.ensures

pub overflow_add-result : goal.overflow_add-result
overflow_add-result c = omega (arith, small_old c.requires c.row_start-at.ensures c.row_start.ensures c.length_in.ensures c.length_in-2.ensures c.length_in-3.ensures)

pub returns : goal.returns
returns c = onto_compared c.requires c.row_start-at.ensures c.row_start.ensures c.length_in.ensures c.length_in-2.ensures c.length_in-3.ensures c.if-u-w.false c.if-v-w.false
