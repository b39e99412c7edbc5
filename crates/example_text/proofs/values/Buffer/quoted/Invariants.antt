-- `example_text::values::Buffer::quoted` ends: what is left of the text becomes less. Assumes nothing.
use Rattle.std.proofs.Common.{length}
use Rattle.example_text.proofs.values.Buffer.quoted.Given as goal

abbrev pub invariant-loop-self : goal.invariant-loop-self
invariant-loop-self l = Unit {0}

abbrev pub decreases-loop-self : goal.decreases-loop-self
decreases-loop-self l = length l.rest
