-- `marking::listing::list_into` meets its contract: both ways out have their lemma in `ListingAnswers`. Assumes
-- nothing.
use mathlib.Core.Path.{ap}
use native.Mathlib.Omega.{arith}
use Rattle.std.specs.Prelude.{Err}
use Rattle.marking.proofs.ListingAnswers.{found_length, encodable, into_refused, into_pairs}
use Rattle.marking.proofs.listing.list_into.Goals as goal

pub returns-then-list-size : goal.returns-then-list-size
returns-then-list-size c = into_refused c.find_pairs-count.ensures (ap Err c.from.ensures) c.if-list-size.true

pub slice_bounds-encode16-end : goal.slice_bounds-encode16-end
slice_bounds-encode16-end c = omega (arith, c.find_pairs-count.ensures.room)

pub slice_bounds-encode16-end-2 : goal.slice_bounds-encode16-end-2
slice_bounds-encode16-end-2 c = found_length c.find_pairs-count.ensures

pub encode16-requires : goal.encode16-requires
encode16-requires c = encodable c.find_pairs-count.ensures c.if-list-size.false

pub returns : goal.returns
returns c = into_pairs c.find_pairs-count.ensures c.if-list-size.false c.encode16.ensures
