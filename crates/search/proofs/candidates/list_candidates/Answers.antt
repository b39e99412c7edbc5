-- `search::candidates::list_candidates` meets its contract: the loop's invariant is `Ranked`, of the two lists with
-- what the next step writes to them. Assumes nothing.
use Prim.Native.Nat.{◌+◌}
use mathlib.Core.Path.{◌≡◌}
use lib.Dec.{eqb}
use lib.ListN.{get_or}
use native.Mathlib.Omega.{arith}
use Rattle.search.proofs.Ranks.{ranked_start, one_small, ranked_on, ranked_end}
use Rattle.rules.specs.asks.Legs.{far}
use Rattle.search.proofs.candidates.list_candidates.Goals as goal

pub loop-x-init : goal.loop-x-init
loop-x-init c = ranked_start _ c.requires

pub overflow_add-count : goal.overflow_add-count
overflow_add-count c =
    let f = one_small (eqb (get_or c.args.legs.now c.loop-x.x 0) far) c.one_if_candidate-count.ensures in
    omega (arith, c.loop-x.invariant.fewer, c.loop-x.invariant.high)

pub loop-x-preserved : goal.loop-x-preserved
loop-x-preserved c = ranked_on c.loop-x.invariant (omega (arith, c.loop-x-test.true)) c.one_if_candidate-count.ensures

pub returns : goal.returns
returns c =
    let e : c.loop-x.x ≡ c.args.n + 1 = omega (arith, c.loop-x.invariant.high, c.loop-x-test.false) in
    rw e at (ranked_end c.loop-x.invariant (omega (arith, c.loop-x-test.false)))
