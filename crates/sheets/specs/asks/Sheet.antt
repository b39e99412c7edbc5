-- What the functions over sheets ensure: the answers of test 7 and of tests 8 and 9, and the declared records as the
-- records of the argument's layer.
use Rattle.std.specs.Prelude.{ℕ, ◌/◌, leb, ltb, Result, Ok, Err}
use Rattle.lists.specs.Test.{unless}
use Rattle.lengths.specs.Refusal.{refused_at}
use Rattle.lengths.specs.declared.refusal.Refusal.{Refusal}
use Rattle.lengths.specs.declared.refusal.Refusal.TheVariants as refusal
use Rattle.lengths.specs.declared.refusal.Refused.{Refused}
use Rattle.argument.specs.Record.{record_size}
use Rattle.argument.specs.Record as R
use Rattle.sheets.specs.declared.sheet.Sheet.{Sheet}
use Rattle.sheets.specs.declared.sheet.Closing.{Closing}
use Rattle.sheets.specs.declared.sheet.Closing.TheVariants.{Split, ThreeOpt, Reorder}
use Rattle.sheets.specs.declared.sheet.Record.{Record}
use Rattle.sheets.specs.declared.sheet.Record.TheVariants.{Line, Case, Visit, Other}
use Rattle.sheets.specs.Sheet.{whole_sheet}

unfoldable pub sheet_admission : ℕ → Result Sheet Refusal
sheet_admission numbers = unless (whole_sheet numbers) (Err refusal.Sheet) (Ok (record { records = numbers / record_size }))

-- tests 8 and 9 of an index that the record `last` has, where so many records are in the sheet and `high` is the highest
-- entered
unfoldable pub index_tested : (count last index high : ℕ) → Result Unit Refused
index_tested count last index high =
    unless (leb index count) (Err (refused_at refusal.IndexAbove last))
    (unless (ltb high index) (Err (refused_at refusal.IndexNotAbove last)) (Ok tt))

-- the declared closing and record, as the argument's layer has them
abbrev pub closing_of : Closing → R.CaseClosing
closing_of (Split point first) = R.splits point first
closing_of (ThreeOpt p q r s) = R.three_opts p q r s
closing_of (Reorder u v first) = R.reorders u v first

abbrev pub record_of : Record → R.Record
record_of (Line l) = R.line l.a l.b l.point l.first l.next
record_of (Case c) = R.case c.a c.b (closing_of c.closing) c.next
record_of (Visit v) = R.visit v.point v.next
record_of Other = R.other
