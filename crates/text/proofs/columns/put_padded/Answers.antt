-- `text::columns::put_padded` meets its contract: blanks, then the digits. Assumes nothing.
use Rattle.text.proofs.Padding.{padded_wrote}
use Rattle.text.proofs.columns.put_padded.Goals as goal

pub returns : goal.returns
returns c =
    padded_wrote c.requires c.digit_count-digits.ensures c.put_blanks-next.ensures c.put_number.ensures
