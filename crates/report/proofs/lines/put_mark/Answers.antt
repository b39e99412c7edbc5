-- `report::lines::put_mark` meets its contract: a line for a struck edge, and none for an open one. What
-- is promised stands first, so that a wrong line is refused there and not where room is asked for it. Assumes nothing.
use Rattle.report.proofs.Striking.{struck_room, struck_wrote, open_wrote}
use Rattle.report.proofs.lines.put_mark.Goals as goal

pub returns-then-opened : goal.returns-then-opened
returns-then-opened c = open_wrote c.args.a c.args.b c.if-opened.true

pub returns-else-opened : goal.returns-else-opened
returns-else-opened c = struck_wrote c.args.a c.args.b c.if-opened.false c.put_struck.ensures

pub put_struck-requires : goal.put_struck-requires
put_struck-requires c = struck_room c.args.a c.args.b c.if-opened.false c.requires
