-- `marking::listing::list_tested` meets its contract: each way out has its lemma in `ListingAnswers`. Assumes nothing.
use Prim.Native.Nat.{ℕ, ◌*◌}
use mathlib.Core.Path.{◌≡◌, sym, ◌∙◌, ap}
use Rattle.std.specs.Prelude.{Err}
use mathlib.Core.Bool.{true}
use lib.ListN.{length-replicate}
use borrow.Author.Tests.{not-true, not-false}
use Rattle.lengths.specs.Instance.{few_edges, most_edges}
use Rattle.marks.specs.Mark.{unstruck_in}
use Rattle.marks.specs.Packed.{marks_of}
use Rattle.argument.specs.Record.{splits, fits}
use Rattle.marking.proofs.ListingAnswers.{markable, findable_small, findable_large, tested_points, tested_struck, tested_listed}
use Rattle.marking.proofs.listing.list_tested.Goals as goal

pub returns-then-not-points_fit : goal.returns-then-not-points_fit
returns-then-not-points_fit c = tested_points (ap Err c.from.ensures) (sym c.points_fit.ensures ∙ not-true _ c.if-not-points_fit.true-raw)

pub is_open-requires : goal.is_open-requires
is_open-requires c =
    let fit : let s = c.args in fits s.tables.n s.a s.b (splits s.c 0) ≡ true = sym c.points_fit.ensures ∙ not-false _ c.if-not-points_fit.false-raw in
    markable c.requires _ _ _ fit

pub returns-then-not-is_open : goal.returns-then-not-is_open
returns-then-not-is_open c =
    let fit : let s = c.args in fits s.tables.n s.a s.b (splits s.c 0) ≡ true = sym c.points_fit.ensures ∙ not-false _ c.if-not-points_fit.false-raw in
    tested_struck fit (ap Err c.from-then-not-is_open.ensures) (sym c.is_open.ensures ∙ not-true _ c.if-not-is_open.true-raw)

pub list_into-requires : goal.list_into-requires
list_into-requires c =
    let fit : let s = c.args in fits s.tables.n s.a s.b (splits s.c 0) ≡ true = sym c.points_fit.ensures ∙ not-false _ c.if-not-points_fit.false-raw in
    findable_small c.requires _ _ _ fit c.if-tables-le-FEW_POINTS.true (length-replicate {A = ℕ} (2 * few_edges) 0)

pub returns-then-tables-le-FEW_POINTS : goal.returns-then-tables-le-FEW_POINTS
returns-then-tables-le-FEW_POINTS c =
    let fit : let s = c.args in fits s.tables.n s.a s.b (splits s.c 0) ≡ true = sym c.points_fit.ensures ∙ not-false _ c.if-not-points_fit.false-raw in
    let is_open : let s = c.args in unstruck_in s.tables.n (marks_of s.tables.n s.marks.now) s.a s.b ≡ true = sym c.is_open.ensures ∙ not-false _ c.if-not-is_open.false-raw in
    tested_listed fit is_open c.list_into.ensures

pub list_into-requires-2 : goal.list_into-requires-2
list_into-requires-2 c =
    let fit : let s = c.args in fits s.tables.n s.a s.b (splits s.c 0) ≡ true = sym c.points_fit.ensures ∙ not-false _ c.if-not-points_fit.false-raw in
    findable_large c.requires _ _ _ fit (length-replicate {A = ℕ} (2 * most_edges) 0)

pub returns : goal.returns
returns c =
    let fit : let s = c.args in fits s.tables.n s.a s.b (splits s.c 0) ≡ true = sym c.points_fit.ensures ∙ not-false _ c.if-not-points_fit.false-raw in
    let is_open : let s = c.args in unstruck_in s.tables.n (marks_of s.tables.n s.marks.now) s.a s.b ≡ true = sym c.is_open.ensures ∙ not-false _ c.if-not-is_open.false-raw in
    tested_listed fit is_open c.list_into-2.ensures
