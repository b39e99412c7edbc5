-- `text::words::put_word` meets its contract: `Copying` holds at the loop's head. Assumes nothing.
use native.Mathlib.Omega.{arith}
use Rattle.text.proofs.Writing.{copy_none, copy_more, copy_done}
use Rattle.text.proofs.words.put_word.Goals as goal

pub loop-i-init : goal.loop-i-init
loop-i-init c = copy_none _ _ _

pub loop-i-preserved : goal.loop-i-preserved
loop-i-preserved c = copy_more c.requires c.loop-i.invariant c.loop-i-test.true

pub returns : goal.returns
returns c = copy_done c.loop-i.invariant c.loop-i-test.false
