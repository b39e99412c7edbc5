-- `report::lines::put_points` meets its contract: two fields and the end of the line. Assumes nothing.
use native.Mathlib.Omega.{arith}
use Rattle.report.specs.Lines.{edges_word, points_line}
use Rattle.text.proofs.Writing.{room_1, room_2, room_3, wrote_three}
use Rattle.text.proofs.Decimals.{field_room, field_wrote}
use Rattle.lengths.proofs.Edges.{edges_few}
use Rattle.report.proofs.lines.put_points.Goals as goal

pub overflow_cast-edges : goal.overflow_cast-edges
overflow_cast-edges c = record { fits = omega (arith, c.count-edges.ensures, edges_few _ c.requires.0) }

pub put_field-next-requires : goal.put_field-next-requires
unfolding points_line
put_field-next-requires c = room_1 _ _ c.requires.1

pub put_field-next-requires-2 : goal.put_field-next-requires-2
unfolding points_line
put_field-next-requires-2 c =
    field_room edges_word c.count-edges.ensures (room_2 _ c.requires.1 c.put_field-next.ensures)

pub put_word-requires : goal.put_word-requires
unfolding points_line
put_word-requires c =
    room_3 c.requires.1 c.put_field-next.ensures (field_wrote edges_word c.count-edges.ensures c.put_field-next-2.ensures)

pub returns : goal.returns
unfolding points_line
returns c =
    wrote_three c.put_field-next.ensures (field_wrote edges_word c.count-edges.ensures c.put_field-next-2.ensures) c.put_word.ensures
