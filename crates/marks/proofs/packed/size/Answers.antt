-- `marks::packed::size` meets its contract. Assumes nothing.
use Rattle.lengths.proofs.Edges.{edges_fit, edge_count_tri}
use native.Mathlib.Omega.{arith}
use Rattle.marks.specs.Packed.{packed_bytes}
use Rattle.marks.proofs.packed.size.Goals as goal

pub overflow_add-result : goal.overflow_add-result
overflow_add-result c = record { fits = omega (arith, edges_fit c.ranges.n.fits, edge_count_tri c.args.n, c.count.ensures) }

pub returns : goal.returns
unfolding packed_bytes
returns c = omega arith
