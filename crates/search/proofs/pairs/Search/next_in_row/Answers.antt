-- `search::pairs::Search::next_in_row` meets its contract: the loop's invariant is `Scanning` at each place of the list.
-- Assumes nothing.
use Prim.Native.Nat.{◌+◌, ◌-◌}
use mathlib.Core.Path.{◌≡◌}
use native.Mathlib.Omega.{arith}
use lib.ListN.{get_or}
use Rattle.search.proofs.RowSearch.{row_far, row_over, row_end, row_order, scan_start, scan_inside, scan_small, scan_more, scan_over, scan_found, scan_on, scan_end, mid_at}
use Rattle.search.proofs.pairs.Search.next_in_row.Goals as goal
use Rattle.search.proofs.pairs.Search.next_in_row.Goals.{then-leg-eq-FAR-via-then-leg-eq-FAR, then-leg-eq-FAR-via-else-leg-eq-FAR+then-self-y}

pub returns-then-leg-eq-FAR : goal.returns-then-leg-eq-FAR
returns-then-leg-eq-FAR c = elim c.then-leg-eq-FAR.branch [
  | then-leg-eq-FAR-via-then-leg-eq-FAR w ↦ row_far c.requires w.if-leg-eq-FAR.true
  | then-leg-eq-FAR-via-else-leg-eq-FAR+then-self-y w ↦ row_over c.requires w.if-self-y.true
]

pub slice_bounds-z-items-count : goal.slice_bounds-z-items-count
slice_bounds-z-items-count c = row_order c.requires

pub slice_bounds-z-items-start : goal.slice_bounds-z-items-start
slice_bounds-z-items-start c = omega (arith, row_order c.requires, row_end c.requires)

pub loop-z-init : goal.loop-z-init
loop-z-init c =
    let e : get_or c.args.self.now.rank.now (c.args.y + 1) 0 + 0 ≡ get_or c.args.self.now.rank.now (c.args.y + 1) 0 = omega arith in
    rw e (scan_start c.requires c.place-first.ensures.at)

-- the candidate at hand, and where it stands
pub overflow_add-first : goal.overflow_add-first
overflow_add-first c =
    let from = get_or c.args.self.now.rank.now (c.args.y + 1) 0 in
    let more = get_or c.args.self.now.rank.now (c.args.self.now.n + 1) 0 - from in
    let at = mid_at from more c.loop-z.z-index c.args.self.now.candidates.now (omega arith) in
    let s = c.loop-z.invariant in
    omega (arith, at, scan_small s (scan_more s (omega arith)))

pub number-length-requires : goal.number-length-requires
number-length-requires c =
    let from = get_or c.args.self.now.rank.now (c.args.y + 1) 0 in
    let more = get_or c.args.self.now.rank.now (c.args.self.now.n + 1) 0 - from in
    let at = mid_at from more c.loop-z.z-index c.args.self.now.candidates.now (omega arith) in
    let s = c.loop-z.invariant in
    rw at (scan_inside s (scan_more s (omega arith)))

pub bounds-legs-z : goal.bounds-legs-z
bounds-legs-z c =
    let from = get_or c.args.self.now.rank.now (c.args.y + 1) 0 in
    let more = get_or c.args.self.now.rank.now (c.args.self.now.n + 1) 0 - from in
    let at = mid_at from more c.loop-z.z-index c.args.self.now.candidates.now (omega arith) in
    let few = c.args.self.now.lengths.few in
    omega (arith, at, scan_more c.loop-z.invariant (omega arith))

pub returns-then-cost-legs : goal.returns-then-cost-legs
returns-then-cost-legs c =
    let from = get_or c.args.self.now.rank.now (c.args.y + 1) 0 in
    let more = get_or c.args.self.now.rank.now (c.args.self.now.n + 1) 0 - from in
    let at = mid_at from more c.loop-z.z-index c.args.self.now.candidates.now (omega arith) in
    let s = c.loop-z.invariant in
    rw at (scan_found s (scan_more s (omega arith)) (rw at at c.number-length.ensures) (rw at at c.if-cost-legs.true))

pub loop-z-preserved : goal.loop-z-preserved
loop-z-preserved c =
    let from = get_or c.args.self.now.rank.now (c.args.y + 1) 0 in
    let more = get_or c.args.self.now.rank.now (c.args.self.now.n + 1) 0 - from in
    let at = mid_at from more c.loop-z.z-index c.args.self.now.candidates.now (omega arith) in
    let s = c.loop-z.invariant in
    let e : from + (c.loop-z.z-index + 1) ≡ from + c.loop-z.z-index + 1 = omega arith in
    rw e (scan_on s (scan_more s (omega arith)) (rw at at c.number-length.ensures) (rw at at c.if-cost-legs.false))

pub returns : goal.returns
returns c = scan_end c.loop-z.invariant (scan_over c.loop-z.invariant (omega (arith, c.loop-z-test.false)))
