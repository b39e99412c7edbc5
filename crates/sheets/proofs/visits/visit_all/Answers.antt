-- `sheets::visits::visit_all` meets its contract. The invariant of its loop is `Visiting`, and its measure the records
-- left above the highest entered. Assumes nothing.
use Rattle.lengths.proofs.Refusals.{told}
use Rattle.sheets.proofs.Visiting.{visit_start, visit_done, visit_refused, visit_less, visit_again}
use Rattle.sheets.proofs.visits.visit_all.Goals as goal

pub loop-visit-init : goal.loop-visit-init
loop-visit-init c = visit_start _ _ _ _ c.none-order.ensures

pub returns-in_err-visit : goal.returns-in_err-visit
returns-in_err-visit c =
    rw (told c.from_residual.ensures.1) (visit_refused c.loop-visit.invariant c.next_visit.ensures (cc))

pub loop-visit-smaller : goal.loop-visit-smaller
loop-visit-smaller c = visit_less c.loop-visit.invariant c.next_visit.ensures {v = c.in-Some.visit} (cc)

pub loop-visit-preserved : goal.loop-visit-preserved
loop-visit-preserved c = visit_again c.loop-visit.invariant c.next_visit.ensures (cc) c.then-order.ensures

pub returns : goal.returns
returns c = visit_done c.loop-visit.invariant c.next_visit.ensures (cc)
