-- `report::lines::put_verdict` meets its contract: three fields and the end of the line. Assumes nothing.
use Rattle.report.specs.Lines.{verdict_line}
use Rattle.text.proofs.Writing.{room_first, room_second, room_1, room_2, room_3, wrote_both, wrote_three}
use Rattle.report.proofs.lines.put_verdict.Goals as goal

pub put_field-next-requires : goal.put_field-next-requires
unfolding verdict_line
put_field-next-requires c = room_1 _ _ (room_first _ c.requires)

pub put_field-next-requires-2 : goal.put_field-next-requires-2
unfolding verdict_line
put_field-next-requires-2 c =
    room_2 _ (room_first _ c.requires) c.put_field-next.ensures

pub put_field-next-requires-3 : goal.put_field-next-requires-3
unfolding verdict_line
put_field-next-requires-3 c =
    room_3 (room_first _ c.requires) c.put_field-next.ensures c.put_field-next-2.ensures

pub put_word-requires : goal.put_word-requires
unfolding verdict_line
put_word-requires c =
    room_second c.requires (wrote_three c.put_field-next.ensures c.put_field-next-2.ensures c.put_field-next-3.ensures)

pub returns : goal.returns
unfolding verdict_line
returns c =
    wrote_both (wrote_three c.put_field-next.ensures c.put_field-next-2.ensures c.put_field-next-3.ensures) c.put_word.ensures
