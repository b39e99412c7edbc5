-- `sheets::visits::close_by_order` meets its contract: each return is a way out of `close_by_order`. Assumes nothing.
use Rattle.lengths.proofs.Refusals.{told}
use Rattle.lengths.specs.Refusal.{refusal_number}
use Rattle.sheets.proofs.Visiting.{order_none, order_refused, order_asked, order_closed, order_not}
use Rattle.sheets.proofs.visits.close_by_order.Goals as goal

pub returns-in_default : goal.returns-in_default
unfolding refusal_number
returns-in_default c = rw c.at.ensures (order_none c.requires c.segment_of.ensures _ _ c.in_default.is)

pub returns-in_err-visited : goal.returns-in_err-visited
returns-in_err-visited c =
    rw (told c.from_residual.ensures.1) (order_refused c.requires c.segment_of.ensures _ _ c.in-Some.is c.visit_all.ensures c.in_err-visited.was)

pub reorder-requires : goal.reorder-requires
reorder-requires c = order_asked c.requires c.segment_of.ensures _ _ c.in-Some.is c.visit_all.ensures c.in_ok-visited.was

pub returns-in-Ok : goal.returns-in-Ok
returns-in-Ok c = order_closed c.requires c.segment_of.ensures _ _ c.in-Some.is c.visit_all.ensures c.in_ok-visited.was c.reorder.ensures c.in-Ok.is

pub returns-in-Err : goal.returns-in-Err
returns-in-Err c =
    rw c.at-in-Err.ensures
    (order_not c.requires c.segment_of.ensures _ _ c.in-Some.is c.visit_all.ensures c.in_ok-visited.was c.reorder.ensures c.in-Err.is)
