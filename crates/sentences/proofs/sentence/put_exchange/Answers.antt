-- `sentences::sentence::put_exchange` meets its contract: two edges, the saving, then the end of the sentence. What is
-- promised stands first, so that a wrong word or number is refused there. Assumes nothing.
use Rattle.sentences.specs.Sentence.{sentence}
use Rattle.text.proofs.Writing.{room_first, room_second, room_1, room_2, room_3, wrote_both, wrote_three}
use Rattle.sentences.proofs.sentence.put_exchange.Goals as goal

pub returns : goal.returns
unfolding sentence
returns c =
    wrote_both (wrote_both (wrote_three c.put_edge-next.ensures c.put_field-next.ensures c.put_field-next-2.ensures) c.put_field-next-3.ensures) c.put_pair.ensures

pub put_edge-next-requires : goal.put_edge-next-requires
unfolding sentence
put_edge-next-requires c = room_1 _ _ (room_first _ (room_first _ c.requires))

pub put_field-next-requires : goal.put_field-next-requires
unfolding sentence
put_field-next-requires c = room_2 _ (room_first _ (room_first _ c.requires)) c.put_edge-next.ensures

pub put_field-next-requires-2 : goal.put_field-next-requires-2
unfolding sentence
put_field-next-requires-2 c =
    room_3 (room_first _ (room_first _ c.requires)) c.put_edge-next.ensures c.put_field-next.ensures

pub put_field-next-requires-3 : goal.put_field-next-requires-3
unfolding sentence
put_field-next-requires-3 c =
    room_second (room_first _ c.requires) (wrote_three c.put_edge-next.ensures c.put_field-next.ensures c.put_field-next-2.ensures)

pub put_pair-requires : goal.put_pair-requires
unfolding sentence
put_pair-requires c =
    room_second c.requires (wrote_both (wrote_three c.put_edge-next.ensures c.put_field-next.ensures c.put_field-next-2.ensures) c.put_field-next-3.ensures)
