-- `text::columns::value_of` meets its contract: `Valuing` holds at the loop's head. Assumes nothing.
use native.Mathlib.Omega.{arith}
use Rattle.text.proofs.Values.{value_start, value_few, value_on}
use Rattle.text.proofs.columns.value_of.Goals as goal

pub loop-b-init : goal.loop-b-init
loop-b-init c = value_start _

pub overflow_mul-value : goal.overflow_mul-value
overflow_mul-value c = omega (arith, value_few c.loop-b.invariant c.requires c.loop-b-test.true)

pub loop-b-preserved : goal.loop-b-preserved
loop-b-preserved c =
    value_on c.loop-b.invariant c.loop-b-test.true (cc) (omega (arith, c.type_inv.columns c.loop-b.b-index))
