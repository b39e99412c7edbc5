-- `search::split::take_in_all` meets its contract: the invariant is `Taking`, that the legs and the bound are those of
-- the first i edges. Assumes nothing.
use Rattle.endian.specs.Bytes.{whole32}
use Rattle.marks.specs.Packed.{marks_of}
use Rattle.search.proofs.Preparing.{Taking}
use Rattle.search.proofs.split.take_in_all.Given as goal

abbrev pub invariant-loop-i : goal.invariant-loop-i
invariant-loop-i l =
    Taking l.rows.n (whole32 l.tables.out.now) (whole32 l.tables.put.now) l.rows.out.now l.rows.put.now (marks_of l.rows.n l.marks) l.k l.c l.legs l.bound l.i
