-- `report::lines::put_struck` meets its contract: two fields and the end of the line. Assumes nothing.
use Rattle.report.specs.Lines.{struck_line}
use Rattle.text.proofs.Writing.{room_1, room_2, room_3, wrote_three}
use Rattle.report.proofs.lines.put_struck.Goals as goal

pub put_field-next-requires : goal.put_field-next-requires
unfolding struck_line
put_field-next-requires c = room_1 _ _ c.requires

pub put_field-next-requires-2 : goal.put_field-next-requires-2
unfolding struck_line
put_field-next-requires-2 c =
    room_2 _ c.requires c.put_field-next.ensures

pub put_word-requires : goal.put_word-requires
unfolding struck_line
put_word-requires c =
    room_3 c.requires c.put_field-next.ensures c.put_field-next-2.ensures

pub returns : goal.returns
unfolding struck_line
returns c =
    wrote_three c.put_field-next.ensures c.put_field-next-2.ensures c.put_word.ensures
