-- `marks::pending::resolve_byte` meets its contract: each quarter is resolved by itself. Assumes nothing.
use mathlib.Core.Path.{◌∙◌}
use Rattle.marks.proofs.Resolving.{resolved-byte}
use Rattle.marks.proofs.pending.resolve_byte.Goals as goal

pub returns : goal.returns
returns c = c.byte_of.ensures ∙ resolved-byte _ _ c.resolve_quarter-a.ensures.resolved c.resolve_quarter-b.ensures.resolved c.resolve_quarter-c.ensures.resolved c.resolve_quarter-d.ensures.resolved
