-- `report::report::mark_records` meets its contract: fresh marks, and the marking of the records. Assumes nothing.
use Prim.Native.Nat.{ℕ}
use mathlib.Core.Path.{◌≡◌, ◌∙◌, ap, subst}
use Rattle.std.specs.Prelude.{is_ok}
use Rattle.endian.specs.Bytes.{whole16, whole32}
use Rattle.marks.specs.Fresh.{fresh_marks}
use Rattle.marks.specs.Packed.{packed, marks_of}
use Rattle.marks.proofs.FreshMarks.{fresh-set-left}
use Rattle.text.specs.Words.{Wrote}
use Rattle.report.specs.Lines.{all_lines}
use Rattle.report.proofs.Sheets.{fresh_done, marked_size, marked_wrote}
use Rattle.report.proofs.Reports.{lines_asked}
use Rattle.report.proofs.report.mark_records.Goals as goal

pub unwrap-requires : goal.unwrap-requires
unwrap-requires c = ap is_ok (c.fresh_marks.ensures.answered ∙ fresh_done c.args.n c.args.marks.now c.requires.range c.requires.marked)

pub put_all-requires : goal.put_all-requires
put_all-requires c =
    let fresh : c.fresh_marks.new.set ≡ packed (fresh_marks c.args.n) = c.fresh_marks.ensures.set-left ∙ fresh-set-left c.args.n c.args.marks.now c.requires.range c.requires.marked in
    lines_asked c.requires
    (marked_size c.args.n (whole32 c.args.table.now) (whole16 c.args.records.now) c.mark_sheet-verdict.result c.mark_sheet-verdict.new.marks c.mark_sheet-verdict.ensures fresh)

pub returns : goal.returns
returns c =
    let fresh : c.fresh_marks.new.set ≡ packed (fresh_marks c.args.n) = c.fresh_marks.ensures.set-left ∙ fresh-set-left c.args.n c.args.marks.now c.requires.range c.requires.marked in
    marked_wrote c.args.n (whole32 c.args.table.now) (whole16 c.args.records.now) c.mark_sheet-verdict.result c.mark_sheet-verdict.new.marks c.mark_sheet-verdict.ensures fresh
    (subst
    (λ (t : ℕ × ℕ).
    Wrote c.args.out.now 0
    (all_lines c.args.n t.0 t.1 (marks_of c.args.n c.mark_sheet-verdict.new.marks)) c.put_all.result c.put_all.new.out)
    c.told-number.ensures c.put_all.ensures)
