-- `text::columns::value_of` meets its contract: `Valuing` holds at the loop's head. Assumes nothing.
use Rattle.text.proofs.Values.{Valuing}
use Rattle.text.proofs.columns.value_of.Given as goal

abbrev pub invariant-loop-b : goal.invariant-loop-b
invariant-loop-b l = Valuing l.columns l.value l.b-index
