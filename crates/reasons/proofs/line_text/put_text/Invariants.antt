-- `reasons::line_text::put_text` meets its contract: `Putting` holds at the loop's head. Assumes nothing.
use Rattle.endian.specs.Bytes.{whole16, whole32}
use Rattle.marks.specs.Packed.{marks_of}
use Rattle.reasons.specs.asks.LineText.{outcomes_of}
use Rattle.reasons.proofs.LineTexts.{Putting}
use Rattle.reasons.proofs.line_text.put_text.Given as goal

abbrev pub invariant-loop : goal.invariant-loop
invariant-loop l =
    Putting l.n (outcomes_of l.n (whole32 l.table) (marks_of l.n l.marks) l.a l.b l.c) (whole16 l.sheet) l.c l.first l.initial.text l.text l.edge.low l.edge.high l.spot.case l.spot.at l.counter
