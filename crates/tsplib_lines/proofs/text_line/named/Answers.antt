-- `tsplib_lines::text_line::named` meets its contract: the words that are passed are not the text. Assumes nothing.
use mathlib.Core.Path.{sym, ◌∙◌}
use Rattle.tsplib_lines.proofs.LineReading.{named_here, named_on, named_none}
use Rattle.tsplib_lines.proofs.text_line.named.Goals as goal

pub returns-then-is_sole : goal.returns-then-is_sole
returns-then-is_sole g c = sym (c.loop-word.invariant ∙ named_here _ _ _ _ c.loop-word-test.true c.loop-word-item.is (sym c.is_sole.ensures ∙ c.if-is_sole.true))

pub loop-word-preserved : goal.loop-word-preserved
loop-word-preserved g c = c.loop-word.invariant ∙ named_on _ _ _ _ c.loop-word-test.true c.loop-word-item.is (sym c.is_sole.ensures ∙ c.if-is_sole.false)

pub returns : goal.returns
returns g c = sym (c.loop-word.invariant ∙ named_none _ _ _ c.loop-word-test.false)
