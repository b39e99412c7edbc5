-- `text::decimal::put_field` meets its contract: a word, then a number. Assumes nothing.
use Rattle.text.specs.Decimal.{field_text}
use Rattle.text.proofs.Writing.{room_first, room_second, wrote_both}
use Rattle.text.proofs.decimal.put_field.Goals as goal

pub put_word-next-requires : goal.put_word-next-requires
unfolding field_text
put_word-next-requires c = room_first _ c.requires

pub put_number-requires : goal.put_number-requires
unfolding field_text
put_number-requires c = room_second c.requires c.put_word-next.ensures

pub returns : goal.returns
unfolding field_text
returns c = wrote_both c.put_word-next.ensures c.put_number.ensures
