-- `marks::packed::unused_clear` meets its contract: by `unused-tested`. Assumes nothing.
use Prim.Native.Nat.{ℕ, ◌-◌, ◌*◌, ◌/◌, ◌^◌}
use mathlib.Core.Path.{◌∙◌, ap}
use native.Mathlib.Omega.{arith}
use lib.Dec.{eqb}
use lib.ListN.{length, get_or}
use Rattle.lengths.proofs.Edges.{edges_fit, edge_count_tri}
use Rattle.marks.proofs.PackedTests.{last_inside, used_few, last_few, unused_tested}
use Rattle.marks.proofs.packed.unused_clear.Goals as goal

pub overflow_sub-last : goal.overflow_sub-last
overflow_sub-last c = omega (arith, last_inside c.requires)

pub overflow_mul-used : goal.overflow_mul-used
overflow_mul-used c = record { fits = omega (arith, last_few c.requires, edges_fit c.ranges.n.fits, edge_count_tri c.args.n) }

pub overflow_sub-used : goal.overflow_sub-used
overflow_sub-used c = omega (arith, last_few c.requires, c.count.ensures)

pub bounds-set-last : goal.bounds-set-last
bounds-set-last c = last_inside c.requires

pub overflow_mul-result : goal.overflow_mul-result
overflow_mul-result c = record { fits = omega (arith, used_few c.requires, c.count.ensures) }

pub overflow_cast-result-2 : goal.overflow_cast-result-2
overflow_cast-result-2 c = record { fits = omega (arith, used_few c.requires, c.count.ensures) }

pub overflow_shr-result : goal.overflow_shr-result
overflow_shr-result c = omega (arith, used_few c.requires, c.count.ensures)

pub returns : goal.returns
returns c = let set = c.args.set.now in ap (λ (e : ℕ). eqb (get_or set (length set - 1) 0 / 2 ^ (2 * (e - 4 * (length set - 1)))) 0) c.count.ensures ∙ unused_tested c.requires
