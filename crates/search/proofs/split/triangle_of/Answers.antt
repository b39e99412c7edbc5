-- `search::split::triangle_of` meets its contract: the lengths stand in the rows of p and c. Assumes nothing.
use Rattle.search.proofs.split.triangle_of.Goals as goal

pub returns : goal.returns
returns c = record {
  start_p = c.row_start-ps.ensures;
  start_q = c.row_start-qs.ensures;
  is_pq = rw (← c.row_start-ps.ensures) c.length_in-pq.ensures;
  is_cp = rw (← c.row_start-cs.ensures) c.length_in-cp.ensures;
  is_cq = rw (← c.row_start-cs.ensures) c.length_in-cq.ensures;
}
