-- `tour_check::tour::each_once` meets its contract: `Seeing` holds at the loop's head, and each way out has its lemma
-- in `TourSeen`. Assumes nothing.
use mathlib.Core.Path.{sym, ◌∙◌}
use native.Mathlib.Omega.{arith}
use Rattle.endian.specs.Bytes.{whole16}
use Rattle.tour_check.proofs.TourSeen.{wrong_length, seeing_start, not_point, flag_inside, seen_twice, seeing_on, all_seen}
use Rattle.tour_check.proofs.tour.each_once.Goals.{then-not-is_point-via-then-not-is_point, then-not-is_point-via-else-not-is_point+then-seen-v}
use Rattle.tour_check.proofs.tour.each_once.Goals as goal

pub returns-then-count-n : goal.returns-then-count-n
returns-then-count-n c = wrong_length c.args.n (whole16 c.args.tour.now) (λ e. c.if-count-n.true (c.count_of-count.ensures ∙ e))

pub loop-i-init : goal.loop-i-init
loop-i-init c = seeing_start (sym c.count_of-count.ensures ∙ c.if-count-n.false)

pub number-v-requires : goal.number-v-requires
number-v-requires c = omega (arith, c.count_of-count.ensures, c.loop-i-test.true)

pub overflow_cast-v : goal.overflow_cast-v
overflow_cast-v c =
    record { fits = omega (arith, flag_inside c.loop-i.invariant c.requires (omega (arith, c.count_of-count.ensures, c.loop-i-test.true)) c.number-v.ensures (sym c.is_point.ensures ∙ c.if-not-is_point.false)) }

pub bounds-seen-v : goal.bounds-seen-v
bounds-seen-v c = flag_inside c.loop-i.invariant c.requires (omega (arith, c.count_of-count.ensures, c.loop-i-test.true)) c.number-v.ensures (sym c.is_point.ensures ∙ c.if-not-is_point.false)

pub returns-then-not-is_point : goal.returns-then-not-is_point
returns-then-not-is_point c = elim c.then-not-is_point.branch [
  | then-not-is_point-via-then-not-is_point w ↦ not_point c.loop-i.invariant c.requires (omega (arith, c.count_of-count.ensures, c.loop-i-test.true)) c.number-v.ensures (sym c.is_point.ensures ∙ w.if-not-is_point.true)
  | then-not-is_point-via-else-not-is_point+then-seen-v w ↦ seen_twice c.loop-i.invariant c.requires (omega (arith, c.count_of-count.ensures, c.loop-i-test.true)) c.number-v.ensures (sym c.is_point.ensures ∙ w.if-not-is_point.false) w.if-seen-v.true
]

pub overflow_cast-seen : goal.overflow_cast-seen
overflow_cast-seen c =
    record { fits = omega (arith, flag_inside c.loop-i.invariant c.requires (omega (arith, c.count_of-count.ensures, c.loop-i-test.true)) c.number-v.ensures (sym c.is_point.ensures ∙ c.if-not-is_point.false)) }

pub bounds-seen-v-in-loop-i : goal.bounds-seen-v-in-loop-i
bounds-seen-v-in-loop-i c = flag_inside c.loop-i.invariant c.requires (omega (arith, c.count_of-count.ensures, c.loop-i-test.true)) c.number-v.ensures (sym c.is_point.ensures ∙ c.if-not-is_point.false)

pub loop-i-preserved : goal.loop-i-preserved
loop-i-preserved c = seeing_on c.loop-i.invariant c.requires (omega (arith, c.count_of-count.ensures, c.loop-i-test.true)) c.number-v.ensures (sym c.is_point.ensures ∙ c.if-not-is_point.false) c.if-seen-v.false

pub returns : goal.returns
returns c = all_seen c.loop-i.invariant (omega (arith, c.count_of-count.ensures, c.loop-i-test.false))
