-- `text::columns::digit_count` meets its contract: by the power of ten at or below the number. Assumes nothing.
use Rattle.text.proofs.Padding.{digits_counted}
use Rattle.text.proofs.columns.digit_count.Goals as goal

pub returns : goal.returns
returns c = digits_counted _ c.args.n (rw c.max.ensures at c.ilog10.ensures.power_le) (rw c.max.ensures at c.ilog10.ensures.next_power_gt)
