-- `search::pairs::Search::next_with` meets its contract: the row of a itself, else the one point a. Assumes nothing.
use Rattle.search.proofs.RowSearch.{with_own, with_past, with_over, with_found, with_refused}
use Rattle.search.proofs.pairs.Search.next_with.Goals as goal
use Rattle.search.proofs.pairs.Search.next_with.Goals.{then-a-y-via-then-a-y, then-a-y-via-else-a-y+then-self-a}

pub returns-then-a-x : goal.returns-then-a-x
returns-then-a-x c = with_own c.requires _ c.if-a-x.true c.next_in_row.ensures

pub returns-then-a-y : goal.returns-then-a-y
returns-then-a-y c = elim c.then-a-y.branch [
  | then-a-y-via-then-a-y w ↦ with_past c.requires _ c.if-a-x.false w.if-a-y.true
  | then-a-y-via-else-a-y+then-self-a w ↦ with_over c.requires _ c.if-a-x.false w.if-self-a.true
]

pub returns-then-cost-length_between : goal.returns-then-cost-length_between
returns-then-cost-length_between c = with_found c.requires _ c.if-a-x.false c.if-a-y.false c.if-self-a.false c.length_between.ensures.at c.if-cost-length_between.true

pub returns : goal.returns
returns c = with_refused c.requires _ c.if-a-x.false c.length_between.ensures.at c.if-cost-length_between.false
