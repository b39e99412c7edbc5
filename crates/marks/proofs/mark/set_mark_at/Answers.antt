-- `marks::mark::set_mark_at` meets its contract: one byte is set, by `marked-at`. Assumes nothing.
use Rattle.marks.proofs.PackedMarks.{marked_at}
use Rattle.marks.proofs.mark.set_mark_at.Goals as goal

pub returns : goal.returns
returns c = marked_at _ c.requires.is_mark c.put_quarter.ensures
