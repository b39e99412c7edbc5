-- `report::report::report` meets its contract: a header that was refused, or read. Assumes nothing.
use mathlib.Core.Path.{sym, ◌∙◌}
use Rattle.report.proofs.Headers.{header_asked}
use Rattle.report.proofs.Reports.{reported}
use borrow.Author.Rules.{rules}
use Rattle.report.proofs.report.report.Goals as goal

pub report_instance-requires : goal.report_instance-requires
report_instance-requires c = header_asked (sym c.read.ensures ∙ c.in-Ok.is) (search rules)

pub returns-in-Err : goal.returns-in-Err
returns-in-Err c = reported c.args.file.now (sym c.read.ensures ∙ c.in-Err.is) (rw (sym c.number.ensures) c.put_refusal.ensures)

pub returns-in-Ok : goal.returns-in-Ok
returns-in-Ok c = reported c.args.file.now (sym c.read.ensures ∙ c.in-Ok.is) c.report_instance.ensures
