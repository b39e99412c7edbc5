-- `marks::packed::put_quarter` meets its contract: by `putting`. Assumes nothing.
use native.Mathlib.Omega.{arith}
use Rattle.marks.proofs.PackedBytes.{Putting, putting}
use Rattle.marks.proofs.packed.put_quarter.Goals as goal

pub overflow_mul-result : goal.overflow_mul-result
overflow_mul-result c =
    let put : Putting c.args.byte c.args.j c.args.mark c.quarter.result = putting (omega (arith, c.ranges.byte)) c.requires c.quarter.ensures in
    record { fits = omega (arith, put.old, c.ranges.byte) }

pub overflow_sub-result : goal.overflow_sub-result
overflow_sub-result c =
    let put : Putting c.args.byte c.args.j c.args.mark c.quarter.result = putting (omega (arith, c.ranges.byte)) c.requires c.quarter.ensures in
    put.old

pub overflow_mul-result-2 : goal.overflow_mul-result-2
overflow_mul-result-2 c =
    let put : Putting c.args.byte c.args.j c.args.mark c.quarter.result = putting (omega (arith, c.ranges.byte)) c.requires c.quarter.ensures in
    record { fits = omega (arith, put.new) }

pub overflow_add-result : goal.overflow_add-result
overflow_add-result c =
    let put : Putting c.args.byte c.args.j c.args.mark c.quarter.result = putting (omega (arith, c.ranges.byte)) c.requires c.quarter.ensures in
    record { fits = omega (arith, put.sum) }

pub returns : goal.returns
returns c =
    let put : Putting c.args.byte c.args.j c.args.mark c.quarter.result = putting (omega (arith, c.ranges.byte)) c.requires c.quarter.ensures in
    put.put
