-- `enumeration::find::find_pairs` meets its contract: each search has its lemma in `Choice`. Assumes nothing.
use mathlib.Core.Path.{refl}
use borrow.Author.Rules.{rules}
use Rattle.enumeration.proofs.Choice.{single_asked, prepared_single, first_found, second_found, apart_up, apart_down}
use Rattle.enumeration.proofs.find.find_pairs.Goals as goal

pub prepare_single-bound-requires : goal.prepare_single-bound-requires
prepare_single-bound-requires c = record { single_asked = single_asked c.requires c.single-k.ensures; legs_value = refl }

pub find_at_end-requires : goal.find_at_end-requires
find_at_end-requires c = record { asked = search rules; point = c.requires.second }

pub returns-then-c-a : goal.returns-then-c-a
returns-then-c-a c = first_found c.requires (prepared_single c.single-k.ensures c.prepare_single-bound.ensures) c.if-c-a.true c.find_at_end.ensures

pub find_at_end-requires-then-c-b : goal.find_at_end-requires-then-c-b
find_at_end-requires-then-c-b c = record { asked = search rules; point = c.requires.first }

pub returns-then-c-b : goal.returns-then-c-b
returns-then-c-b c = second_found c.requires (prepared_single c.single-k.ensures c.prepare_single-bound.ensures) c.if-c-b.true c.find_at_end-then-c-b.ensures

pub returns-then-a-b : goal.returns-then-a-b
returns-then-a-b c = apart_up c.requires (prepared_single c.single-k.ensures c.prepare_single-bound.ensures) c.if-c-a.false c.if-c-b.false c.if-a-b.true c.find_apart.ensures

pub returns : goal.returns
returns c = apart_down c.requires (prepared_single c.single-k.ensures c.prepare_single-bound.ensures) c.if-c-a.false c.if-c-b.false c.if-a-b.false c.find_apart-2.ensures
