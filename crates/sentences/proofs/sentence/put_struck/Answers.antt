-- `sentences::sentence::put_struck` meets its contract: an edge, then the end of the sentence. What is promised stands
-- first, so that a wrong word or number is refused there. Assumes nothing.
use Rattle.sentences.specs.Sentence.{sentence}
use Rattle.text.proofs.Writing.{room_first, room_second, wrote_both}
use Rattle.sentences.proofs.sentence.put_struck.Goals as goal

pub returns : goal.returns
unfolding sentence
returns c =
    wrote_both c.put_edge-next.ensures c.put_pair.ensures

pub put_edge-next-requires : goal.put_edge-next-requires
unfolding sentence
put_edge-next-requires c = room_first _ c.requires

pub put_pair-requires : goal.put_pair-requires
unfolding sentence
put_pair-requires c = room_second c.requires c.put_edge-next.ensures
