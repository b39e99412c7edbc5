-- `marks::converting::is_byte_set` meets its contract: it is the definition. Assumes nothing.
use mathlib.Core.Path.{sym, ◌∙◌}
use borrow.Author.Tests.{eq-eqb, ne_eqb}
use Rattle.marks.specs.Converting.{is_byte_set}
use Rattle.marks.proofs.converting.is_byte_set.Goals as goal

pub returns-then-bytes-count : goal.returns-then-bytes-count
unfolding is_byte_set
returns-then-bytes-count c = c.bytes_are_marks.ensures ∙ sym (rw (eq-eqb _ _ (c.if-bytes-count.true ∙ c.count.ensures)))

pub returns-else-bytes-count : goal.returns-else-bytes-count
unfolding is_byte_set
returns-else-bytes-count c = rw (c.count.ensures, is_byte_set, ne_eqb _ _ (λ e. c.if-bytes-count.false (e ∙ sym c.count.ensures)))
