-- `search::split::fill_edge_rows` meets its contract: a row is kept where another is written behind it.
-- Assumes nothing.
use Rattle.search.proofs.Preparing.{edge_rows}
use Rattle.search.proofs.split.fill_edge_rows.Goals as goal

pub returns : goal.returns
returns c = edge_rows c.requires c.fill_row.ensures c.fill_row-2.ensures c.fill_row-3.ensures
