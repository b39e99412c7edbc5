-- `sentences::sentence::put_loop` meets its contract: an edge, the third point, then the end of the sentence. What is
-- promised stands first, so that a wrong word or number is refused there. Assumes nothing.
use Rattle.sentences.specs.Sentence.{sentence}
use Rattle.text.proofs.Writing.{room_1, room_2, room_3, wrote_three}
use Rattle.sentences.proofs.sentence.put_loop.Goals as goal

pub returns : goal.returns
unfolding sentence
returns c =
    wrote_three c.put_edge-next.ensures c.put_field-next.ensures c.put_pair.ensures

pub put_edge-next-requires : goal.put_edge-next-requires
unfolding sentence
put_edge-next-requires c = room_1 _ _ c.requires

pub put_field-next-requires : goal.put_field-next-requires
unfolding sentence
put_field-next-requires c = room_2 _ c.requires c.put_edge-next.ensures

pub put_pair-requires : goal.put_pair-requires
unfolding sentence
put_pair-requires c =
    room_3 c.requires c.put_edge-next.ensures c.put_field-next.ensures
