-- `sentences::sentence::put_edge` meets its contract: a field, then the higher point behind a dash. What is promised
-- stands first, so that a wrong word or number is refused there. Assumes nothing.
use Rattle.text.proofs.Writing.{room_first, room_second, wrote_both}
use Rattle.sentences.proofs.sentence.put_edge.Goals as goal

pub returns : goal.returns
returns c =
    wrote_both c.put_field-next.ensures c.put_field.ensures

pub put_field-next-requires : goal.put_field-next-requires
put_field-next-requires c = room_first _ c.requires

pub put_field-requires : goal.put_field-requires
put_field-requires c = room_second c.requires c.put_field-next.ensures
