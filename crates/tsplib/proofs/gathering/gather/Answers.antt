-- `tsplib::gathering::gather` meets its contract: `Gathering` holds at the loop's head. Assumes nothing.
use mathlib.Core.Path.{sym, ◌∙◌}
use Rattle.tsplib_lines.specs.Words.{newline}
use Rattle.tsplib_lines.proofs.LineReading.{part_end}
use Rattle.tsplib_lines.proofs.SoleWords.{found_at}
use Rattle.tsplib.proofs.NumbersGathered.{gathering_start, gathering_ends, line_room, gathering_on}
use Rattle.tsplib.proofs.gathering.gather.Goals as goal

pub loop-end-init : goal.loop-end-init
loop-end-init c = gathering_start _ _ _

pub write_line-at-requires : goal.write_line-at-requires
write_line-at-requires c = line_room c.loop-end.invariant (found_at newline _ (sym c.find.ensures ∙ c.in-Some.is)) c.requires

pub loop-end-preserved : goal.loop-end-preserved
loop-end-preserved c = rw part_end (gathering_on c.loop-end.invariant (found_at newline _ (sym c.find.ensures ∙ c.in-Some.is)) c.write_line-at.ensures)

pub returns : goal.returns
returns c = gathering_ends c.loop-end.invariant (sym c.find.ensures ∙ c.in_default.is)
