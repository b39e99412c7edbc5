-- `sentences::sentence::put_sentence` meets its contract: each variant by its function. Assumes nothing.
use Rattle.sentences.specs.Sentence.{sentence}
use Rattle.sentences.specs.asks.Sentence.{reason_of}
use Rattle.sentences.proofs.Variants.{told_room, told_wrote}
use Rattle.sentences.proofs.sentence.put_sentence.Goals as goal

pub put_struck-requires : goal.put_struck-requires
unfolding reason_of
put_struck-requires c =
    told_room c.args.pair.c c.args.pair.x c.args.pair.y c.in-Struck.is c.requires

pub put_point-requires : goal.put_point-requires
unfolding sentence reason_of
put_point-requires c =
    told_room c.args.pair.c c.args.pair.x c.args.pair.y c.in-Third.is c.requires

pub put_loop-requires : goal.put_loop-requires
unfolding reason_of
put_loop-requires c =
    told_room c.args.pair.c c.args.pair.x c.args.pair.y c.in-Loop.is c.requires

pub put_exchange-requires : goal.put_exchange-requires
unfolding reason_of
put_exchange-requires c =
    told_room c.args.pair.c c.args.pair.x c.args.pair.y c.in-Exchange.is c.requires

pub put_move-requires : goal.put_move-requires
unfolding reason_of
put_move-requires c =
    told_room c.args.pair.c c.args.pair.x c.args.pair.y c.in-Move.is c.requires

pub put_point-requires-in-Split : goal.put_point-requires-in-Split
unfolding sentence reason_of
put_point-requires-in-Split c =
    told_room c.args.pair.c c.args.pair.x c.args.pair.y c.in-Split.is c.requires

pub returns-in-Struck : goal.returns-in-Struck
unfolding reason_of
returns-in-Struck c =
    told_wrote c.args.pair.c c.args.pair.x c.args.pair.y c.in-Struck.is c.put_struck.ensures

pub returns-in-Third : goal.returns-in-Third
unfolding sentence reason_of
returns-in-Third c =
    told_wrote c.args.pair.c c.args.pair.x c.args.pair.y c.in-Third.is c.put_point.ensures

pub returns-in-Loop : goal.returns-in-Loop
unfolding reason_of
returns-in-Loop c =
    told_wrote c.args.pair.c c.args.pair.x c.args.pair.y c.in-Loop.is c.put_loop.ensures

pub returns-in-Exchange : goal.returns-in-Exchange
unfolding reason_of
returns-in-Exchange c =
    told_wrote c.args.pair.c c.args.pair.x c.args.pair.y c.in-Exchange.is c.put_exchange.ensures

pub returns-in-Move : goal.returns-in-Move
unfolding reason_of
returns-in-Move c =
    told_wrote c.args.pair.c c.args.pair.x c.args.pair.y c.in-Move.is c.put_move.ensures

pub returns-in-Split : goal.returns-in-Split
unfolding sentence reason_of
returns-in-Split c =
    told_wrote c.args.pair.c c.args.pair.x c.args.pair.y c.in-Split.is c.put_point-in-Split.ensures
