-- The proof of the cycle of calls {chain, close_case}. A case has the splits left of its chain, and the chain of its
-- split has one less, so the measures are 2·left + 1 for `chain` and 2·left for `close_case`. The invariant of the
-- chain's loop is `Following`, and its measure the records left above the highest entered. Of a search it names the
-- components by their places: n, the table, the legs, the bound, c, the centre and k. Assumes nothing.
use Prim.Native.Nat.{◌+◌, ◌-◌, ◌*◌}
use Rattle.endian.specs.Bytes.{whole16, whole32}
use Rattle.argument.specs.Record.{records}
use Rattle.marks.specs.Packed.{marks_of}
use Rattle.sheets.proofs.Walking.{Following}
use Rattle.sheets.proofs.walk.+chain_close_case.Given as goal

abbrev pub decreases-chain : goal.decreases-chain
decreases-chain l = 2 * l.left + 1

abbrev pub decreases-close_case : goal.decreases-close_case
decreases-close_case l = 2 * l.left

abbrev pub invariant-chain-loop-case : goal.invariant-chain-loop-case
invariant-chain-loop-case l =
    Following l.board.tables.n (whole32 l.board.tables.out.now) (whole32 l.board.tables.put.now) l.board.rows.out.now l.board.rows.put.now (marks_of l.board.tables.n l.marks) (whole16 l.board.sheet.now) l.board.count l.k l.left l.i l.c l.first l.search.0 l.search.1.0.now l.search.1.1.0.now l.search.1.1.1.1.1.0 l.search.1.1.1.1.1.1.0 l.search.1.1.1.1.1.1.1.0 l.search.1.1.1.1.1.1.1.1.0 l.x l.y l.last l.index l.high

abbrev pub decreases-chain-loop-case : goal.decreases-chain-loop-case
decreases-chain-loop-case l =
    records (whole16 l.board.sheet.now) - l.high
