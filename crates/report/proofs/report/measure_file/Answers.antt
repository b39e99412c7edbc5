-- `report::report::measure_file` meets its contract: each answer of measuring has its lemma in `Measurings`.
-- Assumes nothing.
use mathlib.Core.Path.{◌∙◌, ap, sym}
use lib.ListN.{length}
use Rattle.report.proofs.Measurings.{wrote_refused, wrote_done}
use Rattle.report.proofs.Sheets.{coordinates_read, coordinates_size}
use Rattle.report.proofs.Reports.{marking_asked}
use Rattle.report.proofs.report.measure_file.Goals as goal

pub mark_records-requires : goal.mark_records-requires
mark_records-requires c = marking_asked c.requires.instance_asked c.requires.places

pub returns-in-Err : goal.returns-in-Err
returns-in-Err c =
    wrote_refused c.args.n c.args.rule c.args.file.now c.requires.instance_asked.range
    (coordinates_read c.args.n c.args.file.now) (ap length (coordinates_read c.args.n c.args.file.now) ∙ coordinates_size c.args.n c.args.file.now c.requires.instance_asked.whole)
    c.requires.places.measured c.measure.ensures c.in-Err.is (rw (sym c.number.ensures) c.put_refusal.ensures)

pub returns-in-Ok : goal.returns-in-Ok
returns-in-Ok c =
    wrote_done c.args.n c.args.rule c.args.file.now c.requires.instance_asked.range
    (coordinates_read c.args.n c.args.file.now) (ap length (coordinates_read c.args.n c.args.file.now) ∙ coordinates_size c.args.n c.args.file.now c.requires.instance_asked.whole)
    c.requires.places.measured c.measure.ensures c.in-Ok.is c.mark_records.ensures
