-- `sentences::sentence::sentence_length` meets its contract: the words of each variant, and the digits of its numbers.
-- Assumes nothing.
use Rattle.sentences.specs.asks.Sentence.{reason_of}
use Rattle.sentences.proofs.Variants.{told_length, struck-length, third_length, loop_length, exchange_length, move_length, split_length}
use Rattle.sentences.proofs.sentence.sentence_length.Goals as goal

pub returns-in-Struck : goal.returns-in-Struck
unfolding reason_of
returns-in-Struck c =
    told_length c.args.pair.c c.args.pair.x c.args.pair.y c.in-Struck.is (struck-length c.three_digits-digits.ensures c.point_digits.ensures c.point_digits-in-Struck.ensures)

pub returns-in-Third : goal.returns-in-Third
unfolding reason_of
returns-in-Third c =
    told_length c.args.pair.c c.args.pair.x c.args.pair.y c.in-Third.is (third_length c.three_digits-digits.ensures c.point_digits-in-Third.ensures)

pub returns-in-Loop : goal.returns-in-Loop
unfolding reason_of
returns-in-Loop c =
    told_length c.args.pair.c c.args.pair.x c.args.pair.y c.in-Loop.is (loop_length c.three_digits-digits.ensures c.three_digits.ensures)

pub returns-in-Exchange : goal.returns-in-Exchange
unfolding reason_of
returns-in-Exchange c =
    told_length c.args.pair.c c.args.pair.x c.args.pair.y c.in-Exchange.is (exchange_length c.three_digits-digits.ensures c.three_digits-in-Exchange.ensures c.point_digits-in-Exchange.ensures c.saved_digits.ensures)

pub returns-in-Move : goal.returns-in-Move
unfolding reason_of
returns-in-Move c =
    told_length c.args.pair.c c.args.pair.x c.args.pair.y c.in-Move.is (move_length c.three_digits-digits.ensures c.three_digits-in-Move.ensures c.saved_digits-in-Move.ensures)

pub returns-in-Split : goal.returns-in-Split
unfolding reason_of
returns-in-Split c =
    told_length c.args.pair.c c.args.pair.x c.args.pair.y c.in-Split.is (split_length c.three_digits-digits.ensures c.point_digits-in-Split.ensures)
