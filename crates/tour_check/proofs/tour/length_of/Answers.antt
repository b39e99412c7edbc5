-- `tour_check::tour::length_of` meets its contract: `Summing` holds at the loop's head. Assumes nothing.
use native.Mathlib.Omega.{arith}
use Rattle.tour_check.proofs.TourLoops.{first_there, tour_size, spans_on, spans_end, summing_start, sum_fits, last_fits, summing_on, all_summed}
use Rattle.tour_check.proofs.tour.length_of.Goals as goal

pub number-first-requires : goal.number-first-requires
number-first-requires c = first_there c.requires

pub loop-i-init : goal.loop-i-init
loop-i-init c = summing_start c.requires c.number-first.ensures

pub number-to-requires : goal.number-to-requires
number-to-requires c = omega (arith, tour_size c.requires, c.loop-i-test.true)

pub length_between-sum-requires : goal.length_between-sum-requires
length_between-sum-requires c = spans_on c.requires c.loop-i.invariant.preceding (omega (arith, tour_size c.requires, c.loop-i-test.true)) c.number-to.ensures

pub overflow_add-sum : goal.overflow_add-sum
overflow_add-sum c = record { fits = sum_fits c.requires c.loop-i.invariant (omega (arith, tour_size c.requires, c.loop-i-test.true)) c.length_between-sum.ensures.bits }

pub loop-i-preserved : goal.loop-i-preserved
loop-i-preserved c = summing_on c.requires c.loop-i.invariant (omega (arith, tour_size c.requires, c.loop-i-test.true)) c.number-to.ensures c.length_between-sum.ensures

pub length_between-requires : goal.length_between-requires
length_between-requires c = spans_end c.requires c.loop-i.invariant.preceding c.number-first.ensures

pub overflow_add-result : goal.overflow_add-result
overflow_add-result c = record { fits = last_fits c.requires c.loop-i.invariant c.length_between.ensures.bits }

pub returns : goal.returns
returns c = all_summed c.requires c.loop-i.invariant (omega (arith, tour_size c.requires, c.loop-i-test.false)) c.number-first.ensures c.length_between.ensures
