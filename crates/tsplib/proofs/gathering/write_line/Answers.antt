-- `tsplib::gathering::write_line` meets its contract. Assumes nothing.
use mathlib.Core.Path.{sym, ◌∙◌}
use Rattle.tsplib.proofs.NumbersGathered.{line_numbers_none, line_numbers_some}
use Rattle.tsplib.proofs.Entries.{room_same, wrote_same, wrote_nothing_of}
use Rattle.tsplib.proofs.gathering.write_line.Goals as goal

pub write_numbers-requires : goal.write_numbers-requires
write_numbers-requires c = room_same c.args.skip (sym (line_numbers_some c.args.line.now (sym c.numbers_of.ensures ∙ c.in-Some.is))) c.requires

pub returns-in-Some : goal.returns-in-Some
returns-in-Some c = wrote_same c.args.skip (line_numbers_some c.args.line.now (sym c.numbers_of.ensures ∙ c.in-Some.is)) c.write_numbers.ensures

pub returns-in-None : goal.returns-in-None
returns-in-None c = wrote_nothing_of _ _ c.args.skip (line_numbers_none c.args.line.now (sym c.numbers_of.ensures ∙ c.in-None.is))
