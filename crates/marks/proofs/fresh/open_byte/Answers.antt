-- `marks::fresh::open_byte` meets its contract. Assumes nothing.
use Rattle.marks.proofs.FreshMarks.{four_open, few_open}
use Rattle.marks.proofs.fresh.open_byte.Goals as goal

pub returns-then-left-ge-PER_BYTE : goal.returns-then-left-ge-PER_BYTE
returns-then-left-ge-PER_BYTE c = four_open _ c.if-left-ge-PER_BYTE.true

pub returns-else-left-ge-PER_BYTE : goal.returns-else-left-ge-PER_BYTE
returns-else-left-ge-PER_BYTE c = few_open _ c.requires c.if-left-ge-PER_BYTE.false
