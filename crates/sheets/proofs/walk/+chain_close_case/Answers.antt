-- The proof of the cycle of calls {chain, close_case}. A case has the splits left of its chain, and the chain of its
-- split has one less, so the measures are 2·left + 1 for `chain` and 2·left for `close_case`. The invariant of the
-- chain's loop is `Following`, and its measure the records left above the highest entered. Assumes nothing.
use mathlib.Core.Path.{refl, ◌∙◌, ap}
use native.Mathlib.Omega.{arith}
use Rattle.std.specs.Prelude.{Ok}
use Rattle.lengths.proofs.Refusals.{told}
use Rattle.lengths.specs.Refusal.{refusal_number}
use Rattle.sets.proofs.Laws.Neighbours.{two_apart}
use Rattle.sheets.proofs.Walking.{follow_start, over_next, follow_ends, follow_stops, follow_case, follow_case_stops, follow_falls, follow_on, close_too_deep, close_chain, close_walks, close_three_opt_asked, close_closed, close_not, close_order_asked, close_by_orders}
use Rattle.sheets.proofs.walk.+chain_close_case.Goals as goal

pub chain-invariant_of-search : goal.chain-invariant_of-search
chain-invariant_of-search t c = record {
  lengths = c.requires.tried.admitted.intervals.put_lengths;
  bounded = c.prepare-bound.ensures.bounded;
  listed = c.list_candidates.ensures;
  apart = two_apart _ _ _ c.neighbours_of-centre.ensures;
  held = c.requires.held;
}

pub chain-loop-case-init : goal.chain-loop-case-init
chain-loop-case-init t c = follow_start c.requires _ _ record {
  points = refl;
  measure = refl;
  known = refl;
  point = refl;
  lengths = c.requires.tried.admitted.intervals.out_lengths;
  prepared = c.prepare-bound.ensures.prepared;
  own = c.neighbours_of-centre.ensures;
}

pub chain-next_pair-next-requires : goal.chain-next_pair-next-requires
chain-next_pair-next-requires t c = let f = c.loop-case.invariant in record { low = f.low; up = f.up; high = f.top }

pub chain-returns-in_err-case : goal.chain-returns-in_err-case
chain-returns-in_err-case t c =
    rw (told c.from_residual.ensures.1) (follow_stops c.loop-case.invariant (over_next c.next_pair-next.ensures c.loop-case.invariant.same) c.look.ensures c.in_err-case.was)

pub chain-returns-in_default : goal.chain-returns-in_default
chain-returns-in_default t c = follow_ends c.loop-case.invariant (over_next c.next_pair-next.ensures c.loop-case.invariant.same) c.look.ensures (c.in_ok-case.was ∙ ap Ok c.in_default.is)

pub chain-close_case-requires : goal.chain-close_case-requires
chain-close_case-requires t c =
    (omega (arith, c.decreases), follow_case c.loop-case.invariant (over_next c.next_pair-next.ensures c.loop-case.invariant.same) c.look.ensures (c.in_ok-case.was ∙ ap Ok c.in-Some.is) c.with_pair-inner.ensures)

pub chain-returns-in_err-high : goal.chain-returns-in_err-high
chain-returns-in_err-high t c =
    rw (told c.from_residual-in_err-high.ensures.1)
    (follow_case_stops c.loop-case.invariant (over_next c.next_pair-next.ensures c.loop-case.invariant.same) c.look.ensures (c.in_ok-case.was ∙ ap Ok c.in-Some.is) c.with_pair-inner.ensures c.close_case.ensures c.in_err-high.was)

pub chain-loop-case-smaller : goal.chain-loop-case-smaller
chain-loop-case-smaller t c =
    follow_falls c.loop-case.invariant (over_next c.next_pair-next.ensures c.loop-case.invariant.same) c.look.ensures (c.in_ok-case.was ∙ ap Ok c.in-Some.is) c.with_pair-inner.ensures c.close_case.ensures c.in_ok-high.was

pub chain-loop-case-preserved : goal.chain-loop-case-preserved
chain-loop-case-preserved t c =
    follow_on c.loop-case.invariant (over_next c.next_pair-next.ensures c.loop-case.invariant.same) c.look.ensures (c.in_ok-case.was ∙ ap Ok c.in-Some.is) c.with_pair-inner.ensures c.close_case.ensures c.in_ok-high.was

pub close_case-returns-then-left-eq0 : goal.close_case-returns-then-left-eq0
unfolding refusal_number
close_case-returns-then-left-eq0 t c = rw c.at.ensures (close_too_deep c.requires c.in-Split.is _ c.if-left-eq0.true)

pub close_case-chain-requires : goal.close_case-chain-requires
close_case-chain-requires t c = (omega (arith, c.decreases), close_chain c.requires c.in-Split.is c.if-left-eq0.false)

pub close_case-close_by_three_opt-requires : goal.close_case-close_by_three_opt-requires
close_case-close_by_three_opt-requires t c = close_three_opt_asked c.requires c.in-ThreeOpt.is

pub close_case-close_by_order-requires : goal.close_case-close_by_order-requires
close_case-close_by_order-requires t c = close_order_asked c.requires c.in-Reorder.is

pub close_case-returns-else-left-eq0 : goal.close_case-returns-else-left-eq0
close_case-returns-else-left-eq0 t c = close_walks c.requires c.in-Split.is _ c.if-left-eq0.false c.chain.ensures

pub close_case-returns-in-Ok : goal.close_case-returns-in-Ok
close_case-returns-in-Ok t c = close_closed c.requires c.in-ThreeOpt.is _ c.close_by_three_opt.ensures c.in-Ok.is

pub close_case-returns-in-Err : goal.close_case-returns-in-Err
close_case-returns-in-Err t c = rw c.at-in-Err.ensures (close_not c.requires c.in-ThreeOpt.is _ c.close_by_three_opt.ensures c.in-Err.is)

pub close_case-returns-in-Reorder : goal.close_case-returns-in-Reorder
close_case-returns-in-Reorder t c = close_by_orders c.requires c.in-Reorder.is _ c.close_by_order.ensures
