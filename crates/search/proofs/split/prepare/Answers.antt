-- `search::split::prepare` meets its contract: the edges of k are taken in, then its points of degree two, then its
-- points as ends. Assumes nothing.
use Prim.Native.Nat.{ℕ}
use mathlib.Core.Path.{◌≡◌, sym, subst}
use mathlib.Core.List.{List}
use Rattle.endian.specs.Bytes.{whole32}
use Rattle.lengths.specs.declared.two_tables.Rows.{Rows}
use Rattle.lengths.specs.declared.two_tables.Tables.{Tables}
use Rattle.marks.specs.Mark.{open_mark}
use Rattle.marks.specs.Packed.{marks_of}
use Rattle.sets.specs.declared.edge_set.EdgeSet.{EdgeSet}
use Rattle.search.specs.asks.Split.{SplitAsked, SplitOf}
use Rattle.search.proofs.Preparing.{points_asks, ends_asks, points_split}
use Rattle.search.proofs.split.prepare.Goals as goal

-- the rows are of the points of the tables
module _ (t : Tables) (r : Rows) (marks : List ℕ) {k : EdgeSet} {c : ℕ} (same : r.n ≡ t.n) where
  by_rows : SplitAsked t.n (whole32 t.out.now) (whole32 t.put.now) r.out.now r.put.now (marks_of t.n marks) k c
      → SplitAsked r.n (whole32 t.out.now) (whole32 t.put.now) r.out.now r.put.now (marks_of r.n marks) k c
  by_rows a = subst (λ (n : ℕ). SplitAsked n (whole32 t.out.now) (whole32 t.put.now) r.out.now r.put.now (marks_of n marks) k c) (sym same) a

  by_tables : {legs : List ℕ} {bound : ℕ} → SplitOf open_mark r.n (whole32 t.out.now) (whole32 t.put.now) (marks_of r.n marks) k c legs bound
      → SplitOf open_mark t.n (whole32 t.out.now) (whole32 t.put.now) (marks_of t.n marks) k c legs bound
  by_tables {legs} {bound} s = subst (λ (n : ℕ). SplitOf open_mark n (whole32 t.out.now) (whole32 t.put.now) (marks_of n marks) k c legs bound) same s

pub take_in_all-bound-requires : goal.take_in_all-bound-requires
take_in_all-bound-requires c = record {
  split_asked = by_rows c.args.tables c.args.rows c.args.marks.now c.requires.same c.requires.split_asked;
  legs_value = c.requires.legs_value;
}

pub take_in_points-requires : goal.take_in_points-requires
take_in_points-requires c =
    let asked = by_rows c.args.tables c.args.rows c.args.marks.now c.requires.same c.requires.split_asked in
    points_asks c.args.rows asked c.take_in_all-bound.ensures

pub take_in_ends-requires : goal.take_in_ends-requires
take_in_ends-requires c =
    let asked = by_rows c.args.tables c.args.rows c.args.marks.now c.requires.same c.requires.split_asked in
    ends_asks c.args.rows asked c.take_in_all-bound.ensures c.take_in_points.ensures

pub returns : goal.returns
returns c =
    let asked = by_rows c.args.tables c.args.rows c.args.marks.now c.requires.same c.requires.split_asked in
    by_tables c.args.tables c.args.rows c.args.marks.now c.requires.same
    (points_split c.args.rows asked c.take_in_all-bound.ensures c.take_in_points.ensures c.take_in_ends.ensures)
