-- `text::words::put_word` meets its contract: `Copying` holds at the loop's head. Assumes nothing.
use Rattle.text.proofs.Writing.{Copying}
use Rattle.text.proofs.words.put_word.Given as goal

abbrev pub invariant-loop-i : goal.invariant-loop-i
invariant-loop-i l = Copying l.initial.out l.at l.word l.i l.out
