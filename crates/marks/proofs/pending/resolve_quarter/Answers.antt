-- `marks::pending::resolve_quarter` meets its contract. Assumes nothing.
use mathlib.Core.Path.{◌∙◌, sym}
use native.Mathlib.Omega.{arith}
use borrow.Author.Tests.{ne_eqb}
use Rattle.marks.proofs.PackedSets.{quarter_small}
use Rattle.marks.proofs.pending.resolve_quarter.Goals as goal

pub returns-else-mark-eq-PENDING : goal.returns-else-mark-eq-PENDING
returns-else-mark-eq-PENDING c = record { resolved = c.quarter-mark.ensures ∙ sym (rw (ne_eqb _ _ (λ e. c.if-mark-eq-PENDING.false (c.quarter-mark.ensures ∙ e)))); two_bits = omega (arith, c.quarter-mark.ensures, quarter_small c.args.byte c.args.j) }
