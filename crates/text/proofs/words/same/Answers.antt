-- `text::words::same` meets its contract: std's equality of slices. Assumes nothing.
use mathlib.Core.Path.{◌∙◌}
use Rattle.text.proofs.SameTexts.{same_pointwise}
use Rattle.text.proofs.words.same.Goals as goal

pub returns : goal.returns
returns c = c.eq.ensures ∙ same_pointwise _ _
