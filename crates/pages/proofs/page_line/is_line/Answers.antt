-- `pages::page_line::is_line` meets its contract: both ways out have their lemma in `LineTexts`. What is promised
-- stands first; of a length past the limit the check finds `long_line`, which the function names. Assumes nothing.
use mathlib.Core.Path.{sym}
use native.Mathlib.Omega.{arith}
use Rattle.pages.proofs.LineTexts.{line_length, wrote_whole, compared}
use Rattle.pages.proofs.page_line.is_line.Goals as goal

pub returns : goal.returns
returns c =
    compared _ _ _ c.length_read-len.ensures (omega arith) c.mark_read-mark.ensures (wrote_whole c.put_line-end.ensures (sym (line_length c.requires.points (omega arith) _))) c.same.ensures
