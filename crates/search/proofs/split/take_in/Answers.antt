-- `search::split::take_in` meets its contract: an edge that touches c leaves all as it is, and any other narrows the
-- legs and tightens the bound. Assumes nothing.
use mathlib.Core.Logic.{inl, inr}
use Rattle.search.proofs.Preparing.{taken_touching, take_asks, take_short, take_narrow, taken_in}
use Rattle.search.proofs.split.take_in.Goals as goal
use Rattle.search.proofs.split.take_in.Goals.{then-u-c-via-then-u-c, then-u-c-via-else-u-c+then-v-c}

pub returns-then-u-c : goal.returns-then-u-c
returns-then-u-c c = taken_touching c.requires (elim c.then-u-c.branch [
  | then-u-c-via-then-u-c w ↦ inl w.if-u-c.true
  | then-u-c-via-else-u-c+then-v-c w ↦ inr w.if-v-c.true
])

pub triangle_of-t-requires : goal.triangle_of-t-requires
triangle_of-t-requires c = take_asks c.requires

pub returns : goal.returns
returns c = taken_in c.requires c.triangle_of-t.ensures c.narrow.ensures c.tighten.ensures

pub narrow-requires : goal.narrow-requires
narrow-requires c = take_narrow c.requires c.triangle_of-t.ensures

pub tighten-requires : goal.tighten-requires
tighten-requires c = take_short c.requires c.triangle_of-t.ensures
