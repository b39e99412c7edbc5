-- `segments::reorder::path_length` meets its contract. The invariant: the sum so far and the path from here on are the
-- whole path. Assumes nothing.
use Rattle.endian.specs.Bytes.{whole32}
use Rattle.lengths.specs.Table.{length_of}
use Rattle.segments.proofs.PointLists.{Walked}
use Rattle.segments.proofs.reorder.path_length.Given as goal

abbrev pub invariant-loop-next : goal.invariant-loop-next
invariant-loop-next l = Walked l.n (length_of l.n (whole32 l.table)) l.u l.points l.v l.sum l.at l.next-index
