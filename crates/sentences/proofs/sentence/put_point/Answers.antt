-- `sentences::sentence::put_point` meets its contract: a field, then the end of the sentence. What is promised stands
-- first, so that a wrong word or number is refused there. Assumes nothing.
use Rattle.text.proofs.Writing.{room_first, room_second, wrote_both}
use Rattle.sentences.proofs.sentence.put_point.Goals as goal

pub returns : goal.returns
returns c =
    wrote_both c.put_field-next.ensures c.put_pair.ensures

pub put_field-next-requires : goal.put_field-next-requires
put_field-next-requires c = room_first _ c.requires

pub put_pair-requires : goal.put_pair-requires
put_pair-requires c = room_second c.requires c.put_field-next.ensures
