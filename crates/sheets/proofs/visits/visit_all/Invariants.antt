-- `sheets::visits::visit_all` meets its contract. The invariant of its loop is `Visiting`, and its measure the records
-- left above the highest entered. Assumes nothing.
use Prim.Native.Nat.{◌-◌}
use Rattle.endian.specs.Bytes.{whole16}
use Rattle.argument.specs.Record.{records}
use Rattle.sheets.proofs.Visiting.{Visiting}
use Rattle.sheets.proofs.visits.visit_all.Given as goal

abbrev pub invariant-loop-visit : goal.invariant-loop-visit
invariant-loop-visit l = Visiting l.board.tables.n (whole16 l.board.sheet.now) l.i l.first l.order l.high l.index

abbrev pub decreases-loop-visit : goal.decreases-loop-visit
decreases-loop-visit l = records (whole16 l.board.sheet.now) - l.high
