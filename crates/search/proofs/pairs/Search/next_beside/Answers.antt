-- `search::pairs::Search::next_beside` meets its contract: what c has leaves all points, one, or none. Assumes nothing.
use Rattle.search.proofs.RowSearch.{beside_none, beside_first, beside_second, beside_neither, beside_more}
use mathlib.Core.Path.{◌≡◌}
use Rattle.search.proofs.pairs.Search.next_beside.Goals as goal

pub returns-in-None : goal.returns-in-None
returns-in-None c = rw c.in-None.is (beside_none c.requires c.next_in_row.ensures)

pub returns-in-Two : goal.returns-in-Two
returns-in-Two c = rw c.in-Two.is (beside_first c.requires _ _ c.if-a-x.true c.next_with-in-Two.ensures)

pub returns-in-Two-2 : goal.returns-in-Two-2
returns-in-Two-2 c = rw c.in-Two-2.is (beside_second c.requires _ _ c.if-b-x.true c.next_with-in-Two-2.ensures)

pub returns-in-Two-3 : goal.returns-in-Two-3
returns-in-Two-3 c =
    let a : c.in-Two.a ≡ c.in-Two-3.field-0 = cc in
    let b : c.in-Two-2.b ≡ c.in-Two-3.field-1 = cc in
    rw c.in-Two-3.is (beside_neither c.requires _ _ (c.args.self.now.apart _ _ c.in-Two-3.is) (rw a at c.if-a-x.false) (rw b at c.if-b-x.false))

pub returns-in-More : goal.returns-in-More
returns-in-More c = rw c.in-More.is (beside_more c.requires)
