-- `desks::turn::turn_sheet` meets its contract: each return is a way out of `turn_packed`. Assumes nothing.
use mathlib.Core.Path.{sym, ◌∙◌}
use Rattle.desks.proofs.TurnAnswers.{turn_untested, turn_admits, turn_marked}
use Rattle.desks.proofs.turn.turn_sheet.Goals as goal

pub turn_admitted-requires : goal.turn_admitted-requires
turn_admitted-requires c = turn_admits _ _ c.args.marks.now _ (sym c.test_sheet.ensures ∙ c.in-Ok.is) c.requires

pub returns-in-Ok : goal.returns-in-Ok
returns-in-Ok c = turn_marked _ _ _ _ _ _ _ (sym c.test_sheet.ensures ∙ c.in-Ok.is) c.turn_admitted.result c.turn_admitted.new.marks c.turn_admitted.ensures

pub returns-in-Err : goal.returns-in-Err
returns-in-Err c = rw c.from.ensures (turn_untested _ _ _ _ _ _ _ (sym c.test_sheet.ensures ∙ c.in-Err.is))
