-- `report::lines::put_all` meets its contract: line one, the strikes, the last line. Assumes nothing.
use Rattle.report.specs.Lines.{all_lines}
use Rattle.text.proofs.Writing.{room_1, room_2, room_3, wrote_three}
use Rattle.marks.specs.Packed.{marks_of}
use Rattle.report.proofs.Bounds.{all_room, strikes_asked, verdict_room, verdict_wrote}
use borrow.Author.Rules.{rules}
use Rattle.report.proofs.lines.put_all.Goals as goal

pub open_edges-opens-requires : goal.open_edges-opens-requires
open_edges-opens-requires c = let p = c.requires in record { few = p.few; whole = p.marked }

pub put_points-next-requires : goal.put_points-next-requires
unfolding all_lines
put_points-next-requires c = (c.requires.few, room_1 _ _ (all_room c.requires c.ranges.number.fits c.ranges.rec.fits))

pub put_strikes-next-requires : goal.put_strikes-next-requires
unfolding all_lines
put_strikes-next-requires c =
    strikes_asked c.requires (room_2 _ (all_room c.requires c.ranges.number.fits c.ranges.rec.fits) c.put_points-next.ensures)

pub put_verdict-requires : goal.put_verdict-requires
unfolding all_lines
put_verdict-requires c =
    verdict_room _ _ (marks_of c.args.n c.args.marks.now) c.open_edges-opens.ensures.counted (room_3 (all_room c.requires (search rules) (search rules)) c.put_points-next.ensures c.put_strikes-next.ensures)

pub returns : goal.returns
unfolding all_lines
returns c =
    wrote_three c.put_points-next.ensures c.put_strikes-next.ensures (verdict_wrote c.args.number c.args.rec (marks_of c.args.n c.args.marks.now) c.open_edges-opens.ensures.counted c.put_verdict.ensures)
