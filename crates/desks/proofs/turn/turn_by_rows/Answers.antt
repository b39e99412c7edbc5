-- `desks::turn::turn_by_rows` meets its contract: each answer of `mark_line` has its lemma in `TurnAnswers`. Assumes
-- nothing.
use mathlib.Core.Path.{◌∙◌, ap}
use Rattle.std.specs.Prelude.{Ok}
use Rattle.desks.proofs.TurnAnswers.{turn_over, turn_stops, turn_strikes}
use Rattle.desks.proofs.turn.turn_by_rows.Goals as goal

pub returns-in-Ok-None : goal.returns-in-Ok-None
returns-in-Ok-None c = turn_over c.requires c.mark_line.ensures (c.in-Ok-None.is ∙ ap Ok c.in-Ok-None.field-0-is)

pub returns-in-Err : goal.returns-in-Err
returns-in-Err c = turn_stops c.requires c.mark_line.ensures c.in-Err.is

pub returns-in-Ok-Some : goal.returns-in-Ok-Some
returns-in-Ok-Some c = turn_strikes c.requires c.mark_line.ensures (c.in-Ok-Some.is ∙ ap Ok c.in-Ok-Some.field-0-is) c.ahead.result c.ahead.ensures
