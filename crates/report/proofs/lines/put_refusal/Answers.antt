-- `report::lines::put_refusal` meets its contract: the last line, with open 0. What is promised stands first, so that a
-- wrong line is refused there and not where room is asked for it. Assumes nothing.
use Rattle.report.specs.Lines.{last_line}
use Rattle.report.proofs.Bounds.{last_room}
use Rattle.report.proofs.lines.put_refusal.Goals as goal

pub returns : goal.returns
unfolding last_line
returns c = c.put_verdict.ensures

pub put_verdict-requires : goal.put_verdict-requires
put_verdict-requires c = last_room c.requires c.ranges.number.fits
